-- Laws of tests that come one after the other, and of what they choose. Assumes nothing.
use mathlib.Core.Path.{◌≡◌, sym, ap, ◌∙◌}
use mathlib.Core.Bool.{Bool, true, false, cond, ◌&&◌}

-- a test that fails, and one that passes and leaves the rest
pub fails : (a b : Bool) → a ≡ false → false ≡ (a && b)
fails a b e = sym (ap (λ (x : Bool). x && b) e)

pub passes : (a b : Bool) {c : Bool} → a ≡ true → c ≡ b → c ≡ (a && b)
passes a b t e = e ∙ sym (ap (λ (x : Bool). x && b) t)

-- what a test chooses
pub chosen : {A : Type 0} (b : Bool) (x y : A) → b ≡ true → x ≡ cond b x y
chosen b x y e = sym (ap (λ (t : Bool). cond t x y) e)

pub other : {A : Type 0} (b : Bool) (x y : A) → b ≡ false → y ≡ cond b x y
other b x y e = sym (ap (λ (t : Bool). cond t x y) e)
