-- The ranges of n and qid: document 01, "Requests". Assumes nothing.
use Rattle.std.specs.Prelude.{ℕ, Bool, eqb, leb, ℤ, pos, negsuc}

-- -1, or `least` or more
abbrev pub minus_one_or : ℕ → ℤ → Bool
minus_one_or least (pos m) = leb least m
minus_one_or least (negsuc m) = eqb m 0
