-- The laws of two's complement, once for every width. Assumes nothing.
use mathlib.Core.Path.{◌≡◌, refl, ap, ◌∙◌}
use mathlib.Core.Bool.{Bool, true, false, cond}
use Prim.Native.Nat.{ℕ, zero, suc, ◌*◌, ◌-◌, ◌/◌, ◌^◌, ◌≤◌, ◌<◌}
use native.Mathlib.Omega.{arith}
use borrow.Author.Tests.{ltb-true, ltb-false, lt-ltb, le-ltb, le-leb, lt-leb}
use lib.Dec.{ltb, leb}
use lib.IntN.{ℤ, pos, negsuc}
use lib.Signed.{mag}
use Rattle.numbers.specs.TwosComplement.{twos, bits_of, fits_in}
use Rattle.numbers.proofs.BigEndian.{pow256-pos, pow256-suc}

-- ---- the integers of a width
pub fits-yes : (k : ℕ) (z : ℤ) → 2 * mag z < 256 ^ k → fits_in k z ≡ true
unfolding fits_in
fits-yes k z h = lt-ltb (2 * mag z) (256 ^ k) h

pub fits_lt : (k : ℕ) (z : ℤ) → fits_in k z ≡ true → 2 * mag z < 256 ^ k
unfolding fits_in
fits_lt k z e = ltb-true (2 * mag z) (256 ^ k) e

pub fits_le : (k : ℕ) (z : ℤ) → fits_in k z ≡ false → 256 ^ k ≤ 2 * mag z
unfolding fits_in
fits_le k z e = ltb-false (2 * mag z) (256 ^ k) e

-- the test by half of the largest number of k bytes
pub fits-half : (k : ℕ) (z : ℤ) → leb (mag z) ((256 ^ k - 1) / 2) ≡ fits_in k z
fits-half k z = by (fits_in k z) refl
  where
    by : (b : Bool) → fits_in k z ≡ b → leb (mag z) ((256 ^ k - 1) / 2) ≡ b
    by true e = le-leb (mag z) ((256 ^ k - 1) / 2) (omega (arith, fits_lt k z e))
    by false e = lt-leb (mag z) ((256 ^ k - 1) / 2) (omega (arith, fits_le k z e, pow256-pos k))

-- ---- the number of an integer
pub bits_pos : (k n : ℕ) → bits_of k (pos n) ≡ n
unfolding bits_of
bits_pos k n = refl

pub bits-neg : (k n : ℕ) → bits_of k (negsuc n) ≡ 256 ^ k - 1 - n
unfolding bits_of
bits-neg k n = omega arith

-- it is one of k bytes
pub bits-lt : (k : ℕ) (z : ℤ) → fits_in k z ≡ true → bits_of k z < 256 ^ k
bits-lt k (pos n) e = rw (bits_pos k n) (omega (arith, fits_lt k (pos n) e))
bits-lt k (negsuc n) e = rw (bits-neg k n) (omega (arith, fits_lt k (negsuc n) e))

-- ---- the integer of a number
-- the lower half
pub twos-low : (k n : ℕ) → 2 * n < 256 ^ k → twos k n ≡ pos n
unfolding twos
twos-low k n h = ap (λ (b : Bool). cond b (pos n) (negsuc (256 ^ k - suc n))) (lt-ltb (2 * n) (256 ^ k) h)

-- the upper half
pub twos-high : (k n : ℕ) → 256 ^ k ≤ 2 * n → twos k n ≡ negsuc (256 ^ k - suc n)
unfolding twos
twos-high k n h = ap (λ (b : Bool). cond b (pos n) (negsuc (256 ^ k - suc n))) (le-ltb (2 * n) (256 ^ k) h)

module _ (k n : ℕ) (h : n < 256 ^ k) where
  -- what holds of the lower half and of the upper
  by-half : (P : ℤ → Type 0) → (2 * n < 256 ^ k → P (pos n)) → (256 ^ k ≤ 2 * n → P (negsuc (256 ^ k - suc n))) → P (twos k n)
  by-half P low high = by (ltb (2 * n) (256 ^ k)) refl
    where
      by : (b : Bool) → ltb (2 * n) (256 ^ k) ≡ b → P (twos k n)
      by true e = let l = ltb-true (2 * n) (256 ^ k) e in rw (twos-low k n l) (low l)
      by false e = let l = ltb-false (2 * n) (256 ^ k) e in rw (twos-high k n l) (high l)

  -- k bytes can hold it
  pub twos-fits : fits_in k (twos k n) ≡ true
  twos-fits = by-half (λ (z : ℤ). fits_in k z ≡ true) (λ l. fits-yes k _ l) (λ l. fits-yes k _ (omega arith))

  -- writing what was read
  pub bits-twos : bits_of k (twos k n) ≡ n
  bits-twos = by-half (λ (z : ℤ). bits_of k z ≡ n) (λ l. bits_pos k n) (λ l. bits-neg k (256 ^ k - suc n) ∙ omega arith)

  -- the code's test by half of the largest number, and what it makes of the upper half
  pub low_half : n ≤ (256 ^ k - 1) / 2 → twos k n ≡ pos n
  low_half l = twos-low k n (omega arith)

  pub high_half : (256 ^ k - 1) / 2 < n → twos k n ≡ negsuc (256 ^ k - 1 - n)
  high_half l = twos-high k n (omega arith) ∙ ap negsuc (less (256 ^ k))
    where
      less : (p : ℕ) → p - suc n ≡ p - 1 - n
      less p = omega arith

-- reading what was written
pub twos-bits : (k : ℕ) (z : ℤ) → 1 ≤ k → fits_in k z ≡ true → twos k (bits_of k z) ≡ z
twos-bits k (pos n) h e = ap (twos k) (bits_pos k n) ∙ twos-low k n (fits_lt k (pos n) e)
twos-bits (suc j) (negsuc n) h e =
    let l : 2 * n < 256 ^ suc j = fits_lt (suc j) (negsuc n) e in
    ap (twos (suc j)) (bits-neg (suc j) n)
    ∙ twos-high (suc j) (256 ^ suc j - 1 - n) (upper (256 ^ suc j) (256 ^ j) n (pow256-suc j) l)
    ∙ ap negsuc (back (256 ^ suc j) n (omega arith))
  where
    upper : (p q n : ℕ) → p ≡ 256 * q → 2 * n < p → p ≤ 2 * (p - 1 - n)
    upper p q n e l = omega arith

    back : (p n : ℕ) → n < p → p - suc (p - 1 - n) ≡ n
    back p n l = omega arith
twos-bits zero (negsuc n) h e = absurd (none h)
  where
    none : 1 ≤ 0 → ⊥
    none h = omega arith
