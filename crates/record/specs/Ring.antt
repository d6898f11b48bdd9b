-- The requests that wait, read out of a ring of 32 places: document 02, request 9. Assumes nothing.
use Rattle.std.specs.Prelude.{ℕ, zero, suc, ◌+◌, ◌%◌, Bool, not, ◌||◌, List, [], ◌∷◌, eqb, ℤ, pos, get_or}
use Rattle.states.specs.declared.request.Request.{Request}
use Rattle.states.specs.Requests.{out_of_range}
use Rattle.bolt.specs.Requests.{tag, RESET}
use Rattle.record.specs.declared.record.Queue.{Queue}
use Rattle.record.specs.Names.{request_of, is_request}

-- the place that many behind one, counted around
abbrev pub place : ℕ → ℕ → ℕ
place at i = (at + i) % 32

abbrev pub behind : ℕ → ℕ
behind at = place at 1

-- what the places from `at` on hold, w of them, in the order in which they wait
abbrev pub lined : {A : Type 0} → (ℕ → A) → ℕ → ℕ → List A
lined g at zero = []
lined g at (suc w) = g at ∷ lined g (behind at) w

-- what stands in a place: the numbers of a request
pub record Place : Type 0 where
  pub kind : ℕ
  pub n : ℤ
  pub qid : ℤ

abbrev pub kind_at : List ℕ → ℕ → ℕ
kind_at kinds at = get_or kinds (at % 32) 0

abbrev pub place_at : Queue → ℕ → Place
place_at queue at = record { kind = kind_at queue.kinds at; n = get_or queue.counts (at % 32) (pos 0); qid = get_or queue.qids (at % 32) (pos 0) }

abbrev pub request_in : Place → Request
request_in p = request_of p.kind p.n p.qid

-- a place whose kind names no request
abbrev pub unnamed : Place → Bool
unnamed p = not (is_request p.kind)

-- or whose numbers are out of their ranges
abbrev pub wrong : Place → Bool
wrong p = unnamed p || out_of_range (request_in p)

abbrev pub is_reset : ℕ → Bool
is_reset kind = eqb kind (tag RESET)
