-- Runs of ASCII, as the functions that pass over them cite them. What UTF-8 is does not depend on them. Assumes nothing.
use Rattle.std.specs.Prelude.{ℕ, suc, ◌+◌, ◌*◌, Bool, true, cond, ◌&&◌, List, [], ◌∷◌, ltb}

-- every byte of s is below n
unfoldable pub all_below : ℕ → List ℕ → Bool
all_below n [] = true
all_below n (b ∷ s) = ltb b n && all_below n s

-- how many bytes at the front of s are ASCII
unfoldable pub ascii_run : List ℕ → ℕ
ascii_run [] = 0
ascii_run (b ∷ s) = cond (ltb b 0x80) (suc (ascii_run s)) 0

-- bytes as one number, the first lowest
unfoldable pub little_endian : List ℕ → ℕ
little_endian [] = 0
little_endian (b ∷ s) = little_endian s * 0x100 + b
