-- `entries::key::is_name` meets its contract. Assumes nothing.
use mathlib.Core.Path.{◌≡◌, refl, ap, ◌∙◌}
use mathlib.Core.Bool.{Bool, ◌&&◌}
use mathlib.Core.List.{List, [], ◌∷◌}
use Prim.Native.Nat.{ℕ, ◌+◌, ◌-◌}
use native.Mathlib.Omega.{arith}
use lib.Dec.{eqb}
use lib.ListN.{take, drop}
use lib.Pointwise.{pointwise}
use Rattle.slices.specs.Parts.{part}
use Rattle.slices.specs.Equality.{same}
use Rattle.entries.proofs.Naming.{spaced, written, start_of, name-is}
use Rattle.entries.proofs.key.is_name.Goals as goal

-- what `==` answers of bytes
pointwise-same : (a b : List ℕ) → pointwise eqb a b ≡ same a b
unfolding same
pointwise-same [] [] = refl
pointwise-same [] (y ∷ b) = refl
pointwise-same (x ∷ a) [] = refl
pointwise-same (x ∷ a) (y ∷ b) = ap (λ (t : Bool). eqb x y && t) (pointwise-same a b)

-- `size` elements from `start` on, as a range takes them
ranged : (s : List ℕ) (start size : ℕ) → take (start + size - start) (drop start s) ≡ part s start size
ranged s start size = let m : start + size - start ≡ size = omega arith in ap (λ n. take n (drop start s)) m

pub returns : goal.returns
unfolding spaced
returns c =
    let a = c.args in let h = c.requires in
    let s = a.message.now in let at = start_of a.number in
    c.eq.ensures ∙ pointwise-same (take (a.start + a.size - a.start) (drop a.start s)) (take (at + a.size - at) (drop at written))
    ∙ ap (λ v. same v (take (at + a.size - at) (drop at written))) (ranged s a.start a.size)
    ∙ ap (same (part s a.start a.size)) (ranged written at a.size ∙ name-is a.number h.1 a.size h.2)
