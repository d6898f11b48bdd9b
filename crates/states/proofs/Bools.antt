-- Laws of tests. Assumes nothing.
use mathlib.Core.Path.{◌≡◌, refl, sym}
use mathlib.Core.Bool.{Bool, true, false, cond, beq}

-- what holds of both of two choices holds of the chosen one, which may be chosen by what the test says
pub by-test : {A : Type 0} (P : A → Type 0) (b : Bool) {x y : A} → (b ≡ true → P x) → (b ≡ false → P y) → P (cond b x y)
by-test P true f g = f refl
by-test P false f g = g refl

-- two tests alike
pub alike_same : (a b : Bool) → a ≡ b → beq a b ≡ true
alike_same true true e = refl
alike_same true false e = sym e
alike_same false true e = e
alike_same false false e = refl

pub same_alike : (a b : Bool) → beq a b ≡ true → a ≡ b
same_alike true true e = refl
same_alike true false e = sym e
same_alike false true e = e
same_alike false false e = refl
