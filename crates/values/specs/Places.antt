-- What the value readers refuse with, and the rule of places: document 01, "Values": "The place is the marker's offset"; "Refusals other
-- than 7 to 16 give place 0". Assumes nothing.
use Rattle.std.specs.Prelude.{ℕ, Bool, ◌&&◌, ◌||◌, List, eqb}
use Rattle.refusal.specs.Answer.{among, Refuses, Placed}
use Rattle.values.specs.Decode.{value_in, answer_of, decode}

-- too long, at place 0; a value fault, 7 to 13, at its place
abbrev pub value_fault : ℕ → ℕ → Bool
value_fault number place = eqb number 6 && eqb place 0 || among 7 13 number

-- of all bytes
pub record Claim : Type 0 where
  -- a message's refusals
  pub faults : (s : List ℕ) → Refuses value_fault (decode s)
  -- keep the rule of places
  pub message : (s : List ℕ) → Placed (decode s)
  -- and so do those of a value in it
  pub value : (s : List ℕ) (depth at : ℕ) → Placed (answer_of (value_in s depth at))
