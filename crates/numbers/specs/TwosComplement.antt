-- Integers in bytes, of any width, in "two's complement" (document 01, "Values"). `pos n` is n, and `negsuc n` is -n - 1; both have
-- the magnitude `mag`, which is n. Assumes nothing.
use Rattle.std.specs.Prelude.{ℕ, suc, ◌*◌, ◌-◌, ◌^◌, Bool, cond, ltb, ℤ, pos, negsuc}
use Rattle.std.specs.Int.Signed.{mag}

-- the integer that the number n of k bytes stands for: n itself in the lower half, and n less 256 to the k in the upper
unfoldable pub twos : ℕ → ℕ → ℤ
twos k n = cond (ltb (2 * n) (256 ^ k)) (pos n) (negsuc (256 ^ k - suc n))

-- the number of k bytes that stands for an integer which they can hold: itself, or 256 to the k more
unfoldable pub bits_of : ℕ → ℤ → ℕ
bits_of k (pos n) = n
bits_of k (negsuc n) = 256 ^ k - suc n

-- k bytes can hold z
unfoldable pub fits_in : ℕ → ℤ → Bool
fits_in k z = ltb (2 * mag z) (256 ^ k)
