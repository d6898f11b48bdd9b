-- Every refusal of the frame reader and of the chunk writer is at place 0 (document 01, "Values": "Refusals other than 7 to 16 give place 0").
-- Proved in proofs/Places.antt. Assumes nothing.
use Rattle.std.specs.Prelude.{ℕ, Bool, List}
use Rattle.refusal.specs.Answer.{Placed}
use Rattle.framing.specs.Reading.{frame_of}
use Rattle.framing.specs.Chunking.{writing}

-- of every input, and of every message
pub record Claim : Type 0 where
  pub reading : (alive : Bool) (room : ℕ) (s : List ℕ) → Placed (frame_of alive room s)
  pub writing : (c room : ℕ) (m : List ℕ) → Placed (writing c room m)
