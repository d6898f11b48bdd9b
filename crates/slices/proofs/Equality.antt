-- Laws of equality of lists, and of two parts compared byte by byte. Assumes nothing.
use mathlib.Core.Path.{◌≡◌, refl, sym, ap, ◌∙◌}
use mathlib.Core.Bool.{true, false, and-false, and-eq-true_iff, false≢true}
use mathlib.Core.List.{List, [], ◌∷◌}
use Prim.Native.Nat.{ℕ, zero, suc, ◌+◌, ◌-◌, ◌≤◌, ◌<◌}
use native.Mathlib.Omega.{arith}
use borrow.Author.Tests.{eq-eqb, ne_eqb, eqb-true}
use lib.Dec.{eqb}
use lib.ListN.{length, get_or}
use Rattle.slices.specs.Parts.{part}
use Rattle.slices.specs.Equality.{same}
use Rattle.slices.proofs.Parts.{length_part, part-cons}

-- lists of two lengths differ
pub same_length : (a b : List ℕ) → (length a ≡ length b → ⊥) → same a b ≡ false
unfolding same
same_length [] [] h = absurd (h refl)
same_length [] (y ∷ b) h = refl
same_length (x ∷ a) [] h = refl
same_length (x ∷ a) (y ∷ b) h = rw (same_length a b (λ e. h (ap suc e))) (and-false (eqb x y))

-- lists that differ at one place differ
pub same_at : (a b : List ℕ) (i : ℕ) → (get_or a i 0 ≡ get_or b i 0 → ⊥) → same a b ≡ false
unfolding same
same_at [] [] i h = absurd (h refl)
same_at [] (y ∷ b) i h = refl
same_at (x ∷ a) [] i h = refl
same_at (x ∷ a) (y ∷ b) zero h = rw (ne_eqb x y h)
same_at (x ∷ a) (y ∷ b) (suc i) h = rw (same_at a b i h) (and-false (eqb x y))

-- and lists that are the same are equal
pub same-equal : (a b : List ℕ) → same a b ≡ true → a ≡ b
unfolding same
same-equal [] [] e = refl
same-equal [] (y ∷ b) e = absurd (false≢true e)
same-equal (x ∷ a) [] e = absurd (false≢true e)
same-equal (x ∷ a) (y ∷ b) e =
    let both = (and-eq-true_iff (eqb x y) (same a b)).0 e in
    let h : x ≡ y = eqb-true x y both.0 in
    rw (h, same-equal a b both.1)

-- what is left of a part, one element and the rest
left-cons : (s : List ℕ) (p n i : ℕ) → i < n → p + n ≤ length s → part s (p + i) (n - i) ≡ get_or s (p + i) 0 ∷ part s (p + (i + 1)) (n - (i + 1))
left-cons s p n i h l =
    let e : n - i ≡ suc (n - (i + 1)) = omega arith in
    let f : p + (i + 1) ≡ p + i + 1 = omega arith in
    let g : p + i < length s = omega arith in
    rw (e, f) (part-cons s (p + i) (n - (i + 1)) g)

-- two parts of one size: what is left of them decides as the whole of them does
abbrev pub Comparing : List ℕ → ℕ → List ℕ → ℕ → ℕ → ℕ → Type 0
Comparing s a t b n i = same (part s a n) (part t b n) ≡ same (part s (a + i) (n - i)) (part t (b + i) (n - i))

module _ (s : List ℕ) (a : ℕ) (t : List ℕ) (b n : ℕ) where
  pub comparing-none : Comparing s a t b n 0
  comparing-none =
      let e : n - 0 ≡ n = omega arith in
      let f : a + 0 ≡ a = omega arith in
      let g : b + 0 ≡ b = omega arith in
      rw (e, f, g)

  pub other-size : (m : ℕ) → a + m ≤ length s → b + n ≤ length t → (m ≡ n → ⊥) → same (part s a m) (part t b n) ≡ false
  other-size m h l d = same_length (part s a m) (part t b n) (λ e. d (sym (length_part s a m h) ∙ e ∙ length_part t b n l))

  module _ (i : ℕ) (so_far : Comparing s a t b n i) where
    pub all-equal : n ≤ i → same (part s a n) (part t b n) ≡ true
    unfolding same
    all-equal h = let z : n - i ≡ 0 = omega arith in so_far ∙ rw z

    module _ (h : i < n) (ka : a + n ≤ length s) (kb : b + n ≤ length t) where
      pub one-equal : get_or s (a + i) 0 ≡ get_or t (b + i) 0 → Comparing s a t b n (i + 1)
      unfolding same
      one-equal e = so_far ∙ rw (left-cons s a n i h ka, left-cons t b n i h kb, eq-eqb (get_or s (a + i) 0) (get_or t (b + i) 0) e)

      pub one-differs : (get_or s (a + i) 0 ≡ get_or t (b + i) 0 → ⊥) → same (part s a n) (part t b n) ≡ false
      unfolding same
      one-differs e = so_far ∙ rw (left-cons s a n i h ka, left-cons t b n i h kb, ne_eqb (get_or s (a + i) 0) (get_or t (b + i) 0) e)
