-- What four bytes propose, byte by byte. Assumes nothing.
use mathlib.Core.Path.{◌≡◌, refl, sym, ap, ◌∙◌}
use mathlib.Core.Bool.{and-false}
use mathlib.Core.List.{List, [], ◌∷◌}
use Rattle.std.specs.Prelude.{None, Some}
use Prim.Native.Nat.{ℕ, zero, suc, ◌≤◌, ◌<◌}
use native.Mathlib.Omega.{arith}
use lib.ListN.{length, get_or}
use borrow.Author.Tests.{eq-eqb, ne_eqb}
use Rattle.handshake.specs.Version.{proposed, among, bytes_of}
use Rattle.slices.specs.Equality.{same}

-- four elements, one by one
pub four : (b : List ℕ) → length b ≡ 4 → b ≡ get_or b 0 0 ∷ get_or b 1 0 ∷ get_or b 2 0 ∷ get_or b 3 0 ∷ []
four [] h = absurd (omega (arith, h))
four (x ∷ []) h = absurd (omega (arith, h))
four (x ∷ y ∷ []) h = absurd (omega (arith, h))
four (x ∷ y ∷ z ∷ []) h = absurd (omega (arith, h))
four (x ∷ y ∷ z ∷ w ∷ []) h = refl
four (x ∷ y ∷ z ∷ w ∷ v ∷ b) h = absurd (omega (arith, h))

-- each byte that is none of a known version's tells that nothing known is proposed; else its minor version is
module _ (b : List ℕ) (h : length b ≡ 4) where
  by_bytes : proposed b ≡ proposed (get_or b 0 0 ∷ get_or b 1 0 ∷ get_or b 2 0 ∷ get_or b 3 0 ∷ [])
  by_bytes = ap proposed (four b h)

  pub wrong_first : (get_or b 0 0 ≡ 0 → ⊥) → None ≡ proposed b
  unfolding among same
  wrong_first p = sym (by_bytes ∙ simp (ne_eqb (get_or b 0 0) 0 p))

  pub wrong_second : get_or b 0 0 ≡ 0 → (get_or b 1 0 ≡ 0 → ⊥) → None ≡ proposed b
  unfolding among same
  wrong_second e p = sym (by_bytes ∙ simp (eq-eqb (get_or b 0 0) 0 e, ne_eqb (get_or b 1 0) 0 p))

  module _ (e0 : get_or b 0 0 ≡ 0) (e1 : get_or b 1 0 ≡ 0) where
    pub wrong-minor : 2 < get_or b 2 0 → None ≡ proposed b
    unfolding among same
    wrong-minor l =
        let n0 : get_or b 2 0 ≡ 0 → ⊥ = λ e. omega (arith, e) in
        let n1 : get_or b 2 0 ≡ 1 → ⊥ = λ e. omega (arith, e) in
        let n2 : get_or b 2 0 ≡ 2 → ⊥ = λ e. omega (arith, e) in
        sym (by_bytes ∙ simp (eq-eqb (get_or b 0 0) 0 e0, eq-eqb (get_or b 1 0) 0 e1, ne_eqb (get_or b 2 0) 0 n0, ne_eqb (get_or b 2 0) 1 n1, ne_eqb (get_or b 2 0) 2 n2))

    pub wrong-major : (get_or b 3 0 ≡ 4 → ⊥) → None ≡ proposed b
    unfolding among same
    wrong-major p = sym (by_bytes ∙ simp (eq-eqb (get_or b 0 0) 0 e0, eq-eqb (get_or b 1 0) 0 e1, ne_eqb (get_or b 3 0) 4 p, and-false))

    module _ (e3 : get_or b 3 0 ≡ 4) where
      -- the bytes are those of the minor version that they name
      named : (minor : ℕ) → get_or b 2 0 ≡ minor → proposed (bytes_of minor) ≡ proposed b
      named minor e = ap proposed (sym (four b h ∙ cc))

      pub right : get_or b 2 0 ≤ 2 → Some (get_or b 2 0) ≡ proposed b
      unfolding among same
      right l = by (get_or b 2 0) refl l
        where
          by : (minor : ℕ) → get_or b 2 0 ≡ minor → minor ≤ 2 → Some minor ≡ proposed b
          by zero e l = named 0 e
          by (suc zero) e l = named 1 e
          by (suc (suc zero)) e l = named 2 e
          by (suc (suc (suc n))) e l = absurd (omega (arith, l))
