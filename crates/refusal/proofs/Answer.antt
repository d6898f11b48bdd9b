-- The rule of places through a choice. Assumes nothing.
use mathlib.Core.Bool.{Bool, true, false, cond}
use Rattle.refusal.specs.Answer.{Answer, Placed}

pub placed-cond : {A : Type 0} (b : Bool) (x y : Answer A) → Placed x → Placed y → Placed (cond b x y)
placed-cond true x y p q = p
placed-cond false x y p q = q
