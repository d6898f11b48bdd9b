-- `markers::extent::extent_at` meets its contract. Assumes nothing.
use Rattle.std.proofs.Common.{rules}
use mathlib.Core.Path.{refl, ap, ◌∙◌}
use Prim.Native.Nat.{ℕ}
use native.Mathlib.Omega.{arith}
use lib.Bits.{bit_and, mask_lt}
use lib.ListN.{get_or}
use Rattle.std.specs.Prelude.{Result}
use Rattle.refusal.specs.declared.Fault.{Fault}
use Rattle.markers.specs.Marker.{itself, small}
use Rattle.markers.specs.Extents.{as_leaf}
use Rattle.markers.specs.declared.extent.Span.{Span}
use Rattle.markers.specs.declared.kind.Leaf.TheVariants as L
use Rattle.markers.specs.declared.marker.Kind.TheVariants as K
use Rattle.markers.proofs.Markers.{small-string, small-integer}
use Rattle.markers.proofs.Extents.{extent-missing, integer-there, by_kind}
use Rattle.markers.proofs.extent.extent_at.Goals as goal

pub returns-then-message-at : goal.returns-then-message-at
returns-then-message-at c = let a = c.args in rw c.at.ensures (extent-missing a.message.now a.at a.depth c.if-message-at.true)

pub overflow_cast-marker : goal.overflow_cast-marker
overflow_cast-marker c = omega (arith, mask_lt (get_or c.args.message.now c.args.at 0) 4)

pub returns-in_err-start : goal.returns-in_err-start
returns-in_err-start c =
    let a = c.args in
    let b : ℕ = get_or a.message.now a.at 0 in
    search (
      rules,
      ap (λ (r : Result Span Fault). as_leaf L.String r) c.in_err-start.ensures
          ∙ by_kind a.message.now a.at c.if-message-at.false (small (K.Leaf L.String) (bit_and b 15)) (small-string b c.if-marker-eq8.true) a.depth (K.Leaf L.String) refl,
    )

pub returns-then-marker-eq8 : goal.returns-then-marker-eq8
returns-then-marker-eq8 c =
    let a = c.args in
    let b : ℕ = get_or a.message.now a.at 0 in
    ap (λ (r : Result Span Fault). as_leaf L.String r) c.in_ok-start.ensures
    ∙ by_kind a.message.now a.at c.if-message-at.false (small (K.Leaf L.String) (bit_and b 15)) (small-string b c.if-marker-eq8.true) a.depth (K.Leaf L.String) refl

pub returns-then-marker-lt128 : goal.returns-then-marker-lt128
returns-then-marker-lt128 c =
    let a = c.args in
    let b : ℕ = get_or a.message.now a.at 0 in
    ap (λ (r : Result Span Fault). as_leaf L.Integer r) (integer-there a.message.now a.at c.if-message-at.false)
    ∙ by_kind a.message.now a.at c.if-message-at.false (itself L.Integer 0) (small-integer b c.if-marker-lt128.true) a.depth (K.Leaf L.Integer) refl
