-- `numbers::bits_of` meets its contract: the lowest bytes of 64-bit two's complement are two's complement of fewer bytes. Assumes nothing.
use mathlib.Core.Path.{◌≡◌, sym, ap, ap₂, ◌∙◌}
use mathlib.Core.Bool.{true}
use Prim.Native.Nat.{ℕ, zero, suc, ◌+◌, ◌*◌, ◌-◌, ◌%◌, ◌^◌, ◌<◌, ◌≤◌}
use native.Mathlib.Nat.{mod-eq_of_lt}
use native.Mathlib.Omega.{arith}
use lib.IntN.{ℤ, pos, negsuc}
use lib.Pow.{pow-add}
use mir.Facts.{to_z-of_z}
use mir.Syntax.{w64}
use mir.Val.{of_z}
use Rattle.std.specs.Prelude.{bit_and}
use Rattle.std.proofs.lemmas.Nat.{and_mask, mod-mul-add}
use Rattle.numbers.specs.TwosComplement.{bits_of, fits_in}
use Rattle.numbers.proofs.BigEndian.{pow256-bits, pow256-pos}
use Rattle.numbers.proofs.TwosComplement.{fits_lt, bits_pos, bits-neg}
use Rattle.numbers.proofs.Access.{width-most}
use Rattle.numbers.proofs.bits_of.Goals as goal

-- the rest of a multiple of p less a number up to p
rest : (p q n : ℕ) → 0 < q → n < p → (q * p - suc n) % p ≡ p - 1 - n
rest p (suc q) n h l =
    let e : suc q * p - suc n ≡ q * p + (p - 1 - n) = omega arith in
    ap (λ (m : ℕ). m % p) e ∙ mod-mul-add q p (p - 1 - n) (omega arith)
rest p zero n h l = absurd (none h)
  where
    none : 0 < 0 → ⊥
    none h = omega arith

lowest : (k : ℕ) (z : ℤ) → k ≤ 8 → fits_in k z ≡ true → of_z w64 z % 256 ^ k ≡ bits_of k z
lowest k (pos n) h e = mod-eq_of_lt (omega (arith, fits_lt k (pos n) e)) ∙ sym (bits_pos k n)
lowest k (negsuc n) h e =
    let j : 8 - k + k ≡ 8 = omega arith in
    let f : 256 ^ (8 - k) * 256 ^ k ≡ 2 ^ 64 = sym (pow-add 256 (8 - k) k) ∙ ap (λ (i : ℕ). 256 ^ i) j in
    ap (λ (m : ℕ). (m - suc n) % 256 ^ k) (sym f)
    ∙ rest (256 ^ k) (256 ^ (8 - k)) n (pow256-pos (8 - k)) (omega (arith, fits_lt k (negsuc n) e))
    ∙ sym (bits-neg k n)

pub returns : goal.returns
returns c =
    let a = c.args in
    let u = rw (to_z-of_z c.ranges.number) at c.cast_unsigned.ensures in
    let m = c.largest.ensures ∙ ap (λ (p : ℕ). p - 1) (sym (pow256-bits a.width)) in
    ap₂ bit_and u m
    ∙ and_mask (of_z w64 a.number) (8 * a.width)
    ∙ ap (λ (p : ℕ). of_z w64 a.number % p) (pow256-bits a.width)
    ∙ lowest a.width a.number (width-most a.width c.requires.0) c.requires.1
