-- The bench trial, whole: from all the bytes of its input to all the bytes of its output. Proved in proofs/Whole.antt. Assumes nothing.
use Rattle.std.specs.Prelude.{ℕ, ◌≤◌, ◌≡◌}
use mathlib.Core.List.{List, [], ◌∷◌, ◌++◌, flatten}
use Rattle.lines.specs.Lines.{lines_of}
use Rattle.lines.specs.Blocks.{missing_end}
use Rattle.session.specs.Session.{fresh, run_of}
use Rattle.run.specs.Run.{Progress, start, block}

-- what the program means: its lines are handled one after the other
abbrev pub trial : List ℕ → List ℕ
trial input = run_of fresh (lines_of input)

-- what is written for blocks that come one after the other; at the end of the input the line that has begun is the last
unfoldable pub blocks : ℕ → Progress → List ℕ → List (List ℕ) → List ℕ
blocks most p begun [] = (block most p begun (missing_end begun)).output
blocks most p begun (b ∷ bs) = (block most p begun b).output ++ blocks most (block most p begun b).progress (block most p begun b).begun bs

-- however the input is cut into blocks, empty ones too, what is written for them is what the program means, where at least 40,001 characters
-- of a line are held
abbrev pub Claim : Type 0
Claim = (most : ℕ) → 40001 ≤ most → (input : List (List ℕ)) → blocks most start [] input ≡ trial (flatten input)
