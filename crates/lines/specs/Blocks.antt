-- A stream that comes in blocks: the lines that end in each of them, and what is held of the line that has begun, which is no more than its
-- first `most` characters. The claim is proved in proofs/Blocks.antt. Assumes nothing.
use Rattle.std.specs.Prelude.{ℕ, ◌≤◌, cond, ◌≡◌, take}
use mathlib.Core.List.{List, [], ◌∷◌, ◌++◌, map, flatten}
use Rattle.lines.specs.Lines.{is_end, lines_of, first_line}

-- what a block gives: the lines that end in it, and what is held of the one that has begun
pub record Cut : Type 0 where
  pub ended : List (List ℕ)
  pub begun : List ℕ

abbrev pub after : List ℕ → Cut → Cut
after line c = record { ended = line ∷ c.ended; begun = c.begun }

-- character by character, with what is held of the line that has begun before the block
unfoldable pub cut : ℕ → List ℕ → List ℕ → Cut
cut most begun [] = record { ended = []; begun = begun }
cut most begun (c ∷ s) = cond (is_end c) (after begun (cut most [] s)) (cut most (take most (begun ++ (c ∷ []))) s)

-- what is held of a line whose next characters are the first of a block
abbrev pub held_of : ℕ → List ℕ → List ℕ → List ℕ
held_of most begun s = take most (begun ++ first_line s)

-- at the end of the stream the line that has begun is the last, if it has characters: a line end is missing
abbrev pub missing_end : List ℕ → List ℕ
missing_end [] = []
missing_end (c ∷ s) = 0x0A ∷ []

-- the lines of blocks that come one after the other
unfoldable pub lines_in : ℕ → List ℕ → List (List ℕ) → List (List ℕ)
lines_in most begun [] = (cut most begun (missing_end begun)).ended
lines_in most begun (block ∷ blocks) = (cut most begun block).ended ++ lines_in most (cut most begun block).begun blocks

-- however a stream is cut into blocks, empty ones too, the lines are the stream's, each by its first `most` characters
abbrev pub Claim : Type 0
Claim = (most : ℕ) → 1 ≤ most → (blocks : List (List ℕ)) → lines_in most [] blocks ≡ map (take most) (lines_of (flatten blocks))
