-- The lines of a stream of bytes: document 01, "Bench trial program": "A line ends with 0A (the last may lack it)". Assumes nothing.
use Rattle.std.specs.Prelude.{ℕ, zero, suc, Bool, true, false, cond, List, [], ◌∷◌, eqb}

-- 0A
abbrev pub is_end : ℕ → Bool
is_end c = eqb c 0x0A

-- one more character in front of the first line
abbrev pub leading : ℕ → List (List ℕ) → List (List ℕ)
leading c [] = (c ∷ []) ∷ []
leading c (line ∷ lines) = (c ∷ line) ∷ lines

-- all lines of a stream, without their ends; where nothing stands behind the last line end, no line begins there
unfoldable pub lines_of : List ℕ → List (List ℕ)
lines_of [] = []
lines_of (c ∷ s) = cond (is_end c) ([] ∷ lines_of s) (leading c (lines_of s))

-- what stands before the first line end, or all where there is none
unfoldable pub first_line : List ℕ → List ℕ
first_line [] = []
first_line (c ∷ s) = cond (is_end c) [] (c ∷ first_line s)

-- there is a line end
unfoldable pub has_end : List ℕ → Bool
has_end [] = false
has_end (c ∷ s) = cond (is_end c) true (has_end s)

-- so many lines with their ends, or all where there are fewer
unfoldable pub first_lines : ℕ → List ℕ → List ℕ
first_lines zero s = []
first_lines (suc n) [] = []
first_lines (suc n) (c ∷ s) = c ∷ cond (is_end c) (first_lines n s) (first_lines (suc n) s)
