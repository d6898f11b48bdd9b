-- A list of calls on the state table: what is seen of each, and what is counted. Document 01, demand 3. Assumes nothing.
use Rattle.std.specs.Prelude.{ℕ, zero, suc, ◌+◌, Bool, true, ◌&&◌, ◌||◌, List, [], ◌∷◌, ◌++◌, ltb, leb, length, drop, Option, None, Some}
use Rattle.refusal.specs.Answer.{Answer, returned, refused}
use Rattle.states.specs.declared.state.State.TheVariants.{Interrupted, Failed}
use Rattle.states.specs.declared.request.Request.{Request}
use Rattle.states.specs.Requests.{in_state}
use Rattle.states.specs.Table as T
use Rattle.states.specs.Table.{Table, Call, Said, Done, step}

-- ---- a list of calls
-- what is seen of a call: what is kept before it, the call, and its answer
pub record Event : Type 0 where
  pub before : Table
  pub call : Call
  pub answer : Answer Said

abbrev pub said_by : Answer Done → Answer Said
said_by (returned d) = returned d.said
said_by (refused number place) = refused number place

-- a refused call changes nothing
abbrev pub left_by : Table → Answer Done → Table
left_by t (returned d) = d.table
left_by t (refused number place) = t

abbrev pub run_t : Table → List Call → Table
run_t t [] = t
run_t t (x ∷ xs) = run_t (left_by t (step t x)) xs

abbrev pub events_t : Table → List Call → List Event
events_t t [] = []
events_t t (x ∷ xs) = record { before = t; call = x; answer = said_by (step t x) } ∷ events_t (left_by t (step t x)) xs

-- ---- what is counted
-- the requests of the arrive calls that were not refused, in order
abbrev pub accepted_by : Call → Answer Said → List Request
accepted_by (T.arrive r) (returned s) = r ∷ []
accepted_by (T.arrive r) (refused number place) = []
accepted_by T.take a = []
accepted_by (T.report o) a = []
accepted_by T.close a = []

abbrev pub requests : List Event → List Request
requests [] = []
requests (e ∷ es) = accepted_by e.call e.answer ++ requests es

-- ---- requests with their numbers
-- a number, and the request that goes with it; none where there is no such request
pub record Numbered : Type 0 where
  pub number : ℕ
  pub request : Option Request

-- the first of some requests, and the n-th, from 1
abbrev pub first : List Request → Option Request
first [] = None
first (r ∷ rs) = Some r

abbrev pub nth : ℕ → List Request → Option Request
nth zero rs = None
nth (suc n) rs = first (drop n rs)

-- requests with their numbers, in order
abbrev pub numbered : ℕ → List Request → List Numbered
numbered n [] = []
numbered n (r ∷ rs) = record { number = n; request = Some r } ∷ numbered (n + 1) rs

-- each number, with the request that has this number among the requests rs
abbrev pub looked_up : List Request → List Numbered → List Numbered
looked_up rs [] = []
looked_up rs (x ∷ xs) = record { number = x.number; request = nth x.number rs } ∷ looked_up rs xs

-- each number is above the one before it, and the first above n
abbrev pub rising : ℕ → List Numbered → Bool
rising n [] = true
rising n (x ∷ xs) = ltb n x.number && rising x.number xs

-- what is handed over, with the numbers handed over with it
abbrev pub handed_by : Answer Said → List Numbered
handed_by (refused number place) = []
handed_by (returned T.queued) = []
handed_by (returned T.closed) = []
handed_by (returned T.idle) = []
handed_by (returned (T.handed r number)) = record { number = number; request = Some r } ∷ []
handed_by (returned (T.answered summary number)) = []

abbrev pub handed_over : List Event → List Numbered
handed_over [] = []
handed_over (e ∷ es) = handed_by e.answer ++ handed_over es

-- ---- summaries
-- the request that was handed over and has no summary yet, after an answer: `was` is the one before it
abbrev pub awaited : Option Request → Answer Said → Option Request
awaited was (refused number place) = was
awaited was (returned T.queued) = was
awaited was (returned T.closed) = was
awaited was (returned T.idle) = was
awaited was (returned (T.handed r number)) = Some r
awaited was (returned (T.answered summary number)) = None

-- the request that a call's summary answers: the one that a take looked at, the first that waits before it; or the one that a report was for,
-- which was handed over
abbrev pub answered_by : Option Request → Table → Call → Option Request
answered_by was before (T.arrive r) = None
answered_by was before T.take = first before.waiting
answered_by was before (T.report o) = was
answered_by was before T.close = None

-- a summary's number, with the request that it answers
abbrev pub summary_by : Option Request → Answer Said → List Numbered
summary_by r (refused number place) = []
summary_by r (returned T.queued) = []
summary_by r (returned T.closed) = []
summary_by r (returned T.idle) = []
summary_by r (returned (T.handed q number)) = []
summary_by r (returned (T.answered summary number)) = record { number = number; request = r } ∷ []

-- the summaries of a list of calls, before which the request `was` was handed over; and from the first call on
abbrev pub summaries_from : Option Request → List Event → List Numbered
summaries_from was [] = []
summaries_from was (e ∷ es) = summary_by (answered_by was e.before e.call) e.answer ++ summaries_from (awaited was e.answer) es

abbrev pub summaries : List Event → List Numbered
summaries es = summaries_from None es

-- ---- a request handed over by a take in FAILED or INTERRUPTED
abbrev pub wrongly_handed : Event → Bool
wrongly_handed e = leb 1 (length (handed_by e.answer)) && (in_state e.before.state Failed || in_state e.before.state Interrupted)
