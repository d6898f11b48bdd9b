-- What the code's steps on an i64 give. Its bits are `of_z w64 z`, and `to_z w64` takes them back. Assumes nothing.
use mathlib.Core.Path.{◌≡◌, refl, ap, ◌∙◌}
use Prim.Native.Nat.{ℕ, zero, suc, ◌+◌, ◌^◌, ◌<◌}
use native.Mathlib.Omega.{arith}
use lib.IntN.{ℤ, pos, negsuc, ◌-ℤ◌}
use mir.Syntax.{w64}
use mir.Val.{SFits, to_z}
use mir.Facts.{to_z_pos}

pub neg-fits : {n : ℕ} → n < 2 ^ 63 → SFits w64 (negsuc n)
neg-fits h = record { sfits = h }

-- -1 - n
flip-pos : (n : ℕ) → negsuc 0 -ℤ pos n ≡ negsuc n
flip-pos zero = refl
flip-pos (suc n) = ap (λ (k : ℕ). negsuc (suc k)) (zero-plus n)
  where
    zero-plus : (n : ℕ) → 0 + n ≡ n
    zero-plus n = omega arith

-- of an unsigned n below 2 to the 63
pub flipped : {n : ℕ} → n < 2 ^ 63 → negsuc 0 -ℤ to_z w64 n ≡ negsuc n
flipped {n} h = ap (λ (y : ℤ). negsuc 0 -ℤ y) (to_z_pos w64 h) ∙ flip-pos n
