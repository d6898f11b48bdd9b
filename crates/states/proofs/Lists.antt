-- Laws of lists: a run of stores at the front of a list. Assumes nothing.
use mathlib.Core.Path.{◌≡◌, refl, sym, ap, ◌∙◌}
use mathlib.Core.List.{List, [], ◌∷◌, ◌++◌}
use Prim.Native.Nat.{ℕ, suc, ◌+◌, ◌<◌, ◌≤◌}
use native.Mathlib.Numerals.{add-one}
use native.Mathlib.Nat.{zero-add, add-zero}
use native.Mathlib.Omega.{arith}
use lib.ListN.{length, take, drop, get_or, set, take-append-drop}
use lib.Seq.{length-take-le, take-suc, take_at, sets, sets-eq}

-- ---- a run of stores at the front
module _ {A : Type 0} where
  -- one store more
  sets_more : (l : List A) (i : ℕ) (v : List A) (x : A) → sets l i (v ++ (x ∷ [])) ≡ set (sets l i v) (i + length v) x
  sets_more l i [] x = ap (λ (k : ℕ). set l k x) (sym (add-zero i))
  sets_more l i (a ∷ v) x = sets_more (set l i a) (suc i) v x ∙ ap (λ (k : ℕ). set (sets (set l i a) (suc i) v) k x) (omega arith)

  pub sets-snoc : (l v : List A) (n : ℕ) (x : A) → length v ≡ n → set (sets l 0 v) n x ≡ sets l 0 (v ++ (x ∷ []))
  sets-snoc l v n x e = ap (λ (k : ℕ). set (sets l 0 v) k x) (sym e ∙ sym (zero-add (length v))) ∙ sym (sets_more l 0 v x)

  sets-front : (l v : List A) → length v ≤ length l → sets l 0 v ≡ v ++ drop (length v) l
  sets-front l v h = sets-eq v l 0 (omega (arith, zero-add (length v))) ∙ ap (λ (k : ℕ). v ++ drop k l) (zero-add (length v))

  -- a list's own front, stored again
  pub sets-own : (l : List A) (n : ℕ) → n ≤ length l → sets l 0 (take n l) ≡ l
  sets-own l n h =
      let long : length (take n l) ≡ n = length-take-le n l h in
      sets-front l (take n l) (omega arith) ∙ ap (λ (k : ℕ). take n l ++ drop k l) long ∙ take-append-drop n l

  -- what was stored, read again
  pub take-sets : (l v : List A) → length v ≤ length l → take (length v) (sets l 0 v) ≡ v
  take-sets l v h = ap (take (length v)) (sets-front l v h) ∙ take_at v (drop (length v) l) (length v) refl

  -- one element more of a list's front
  pub take_more : (l : List A) (i : ℕ) (d : A) → i < length l → take i l ++ (get_or l i d ∷ []) ≡ take (i + 1) l
  take_more l i d h = sym (take-suc l i d h) ∙ ap (λ (k : ℕ). take k l) (sym (add-one i))
