-- Laws of modes: what a String's one byte names. Assumes nothing.
use mathlib.Core.Path.{◌≡◌, sym, ap, ◌∙◌}
use mathlib.Core.Bool.{false}
use mathlib.Core.List.{List, [], ◌∷◌}
use Prim.Native.Nat.{ℕ, ◌+◌, ◌≤◌}
use native.Mathlib.Omega.{arith}
use lib.ListN.{length, get_or}
use borrow.Author.Tests.{ne_eqb}
use Rattle.std.specs.Prelude.{Some, None}
use Rattle.slices.specs.Parts.{part}
use Rattle.slices.proofs.Parts.{length_part, part-cons}
use Rattle.slices.specs.Equality.{same}
use Rattle.slices.proofs.Equality.{same_length}
use Rattle.entries.specs.View.{mode_named}
use Rattle.entries.specs.declared.view.Mode.TheVariants as M

module _ (s : List ℕ) (start size : ℕ) (inside : start + size ≤ length s) where
  pub mode-size : (size ≡ 1 → ⊥) → None ≡ mode_named (part s start size)
  mode-size d =
      let other : (b : ℕ) → same (part s start size) (b ∷ []) ≡ false =
      λ b. same_length (part s start size) (b ∷ []) (λ e. d (sym (length_part s start size inside) ∙ e)) in
      rw (other 0x72, other 0x77)

  module _ (one : size ≡ 1) where
    content : part s start size ≡ get_or s start 0 ∷ []
    content = ap (part s start) one ∙ part-cons s start 0 (omega arith)

    pub mode-read : get_or s start 0 ≡ 0x72 → Some M.Read ≡ mode_named (part s start size)
    unfolding same
    mode-read e = rw (content, e)

    pub mode-write : get_or s start 0 ≡ 0x77 → Some M.Write ≡ mode_named (part s start size)
    unfolding same
    mode-write e = rw (content, e)

    pub mode-other : (get_or s start 0 ≡ 0x72 → ⊥) → (get_or s start 0 ≡ 0x77 → ⊥) → None ≡ mode_named (part s start size)
    unfolding same
    mode-other d e = rw (content, ne_eqb (get_or s start 0) 0x72 d, ne_eqb (get_or s start 0) 0x77 e)
