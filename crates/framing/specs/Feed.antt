-- Reading chunks one byte after the other: document 01, "Frames", and source document 000, "Chunking". Assumes nothing.
use Rattle.std.specs.Prelude.{ℕ, zero, suc, ◌+◌, Bool, true, false, cond, List, [], ◌∷◌, ◌++◌, ltb, eqb, length}
use Rattle.numbers.specs.BigEndian.{big_endian}
use Rattle.refusal.specs.Answer.{Answer, returned, refused}
use Rattle.bolt.specs.Limits.{most_bytes}

-- what stands at the front of the bytes: a message, or a keep-alive; each with how many bytes it takes
pub data Reading : Type 0 where
  message : List ℕ → ℕ → Reading
  keep-alive : ℕ → Reading

-- what has come of a message, and how many bytes of input that took. `chunk`: so many bytes of the present chunk are still to come,
-- and after them a header. `header`: the first byte of a header has come.
pub data Waiting : Type 0 where
  chunk : List ℕ → ℕ → ℕ → Waiting
  header : List ℕ → ℕ → ℕ → Waiting

pub data Progress : Type 0 where
  done : Answer Reading → Progress
  waits : Waiting → Progress

-- nothing has come
abbrev pub start : Waiting
start = chunk [] 0 0

-- a size of zero ends the message; with no message bytes before it, it is a keep-alive in 4.1 and 4.2 and refusal 5 in 4.0
abbrev pub ended : Bool → List ℕ → ℕ → Answer Reading
ended alive (b ∷ got) used = returned (message (b ∷ got) used)
ended true [] used = returned (keep-alive used)
ended false [] used = refused 5 0

-- a header that names n bytes: the first that takes the sum over 16,384 gives 6, else over the lent buffer gives 21
abbrev pub opened : Bool → ℕ → List ℕ → ℕ → ℕ → Progress
opened alive room got used n =
    cond (eqb n 0) (done (ended alive got used))
    (cond (ltb most_bytes (length got + n)) (done (refused 6 0))
    (cond (ltb room (length got + n)) (done (refused 21 0))
    (waits (chunk got used n))))

-- one byte more
abbrev pub step : Bool → ℕ → Waiting → ℕ → Progress
step alive room (chunk got used (suc left)) b = waits (chunk (got ++ b ∷ []) (used + 1) left)
step alive room (chunk got used zero) b = waits (header got (used + 1) b)
step alive room (header got used high) b = opened alive room got (used + 1) (big_endian (high ∷ b ∷ []))

-- what is done stays; what waits goes on
abbrev pub unless_done : Progress → (Waiting → Progress) → Progress
unless_done (done a) go = done a
unless_done (waits w) go = go w

-- the bytes that come, one after the other
unfoldable pub feed : Bool → ℕ → Waiting → List ℕ → Progress
feed alive room w [] = waits w
feed alive room w (b ∷ s) = unless_done (step alive room w b) (λ v. feed alive room v s)
