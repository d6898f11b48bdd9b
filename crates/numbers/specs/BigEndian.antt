-- Unsigned numbers in bytes, of any width: "the wider sizes are big-endian and unsigned" (document 01, "Values"). Assumes nothing.
use Rattle.std.specs.Prelude.{ℕ, zero, suc, ◌+◌, ◌*◌, ◌/◌, ◌%◌, ◌^◌, ◌<◌, Bool, List, [], ◌∷◌, ltb, length, get_or}

-- the number that a list of bytes stands for: the first byte weighs most
unfoldable pub big_endian : List ℕ → ℕ
big_endian [] = 0
big_endian (b ∷ bs) = b * 256 ^ length bs + big_endian bs

-- the k lowest bytes of n, the highest of them first
unfoldable pub bytes_of : ℕ → ℕ → List ℕ
bytes_of zero n = []
bytes_of (suc k) n = n / 256 ^ k % 256 ∷ bytes_of k n

-- k bytes can hold n
abbrev pub holds : ℕ → ℕ → Bool
holds k n = ltb n (256 ^ k)

-- every element is a byte
abbrev pub Bytes : List ℕ → Type 0
Bytes s = (i : ℕ) → get_or s i 0 < 256
