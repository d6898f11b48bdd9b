-- Parts of lists, as every layer speaks of them. Assumes nothing.
use Rattle.std.specs.Prelude.{ℕ, ◌+◌, Bool, cond, ◌&&◌, List, ◌++◌, leb, length, take, drop}
use Rattle.std.proofs.lemmas.List.Edits.{sets}

-- the `size` elements from `start` on, or as many of them as there are
abbrev pub part : List ℕ → ℕ → ℕ → List ℕ
part s start size = take size (drop start s)

-- the list is long enough for `size` elements from `start` on
abbrev pub reaches : List ℕ → ℕ → ℕ → Bool
reaches s start size = leb (start + size) (length s)

-- a copy of `size` elements between two lists stays inside both
abbrev pub fits : List ℕ → ℕ → ℕ → List ℕ → ℕ → Bool
fits s start size d at = reaches s start size && reaches d at size

-- the target of a copy afterwards: `sets d at v` is d with the elements of v from `at` on in place of its own
abbrev pub copied : List ℕ → ℕ → ℕ → List ℕ → ℕ → List ℕ
copied s start size d at = cond (fits s start size d at) (sets d at (part s start size)) d

-- v in front, and behind it the rest of d as it was
abbrev pub front : List ℕ → List ℕ → List ℕ
front v d = v ++ drop (length v) d
