-- `markers::extent::key_extent_at` meets its contract. Assumes nothing.
use mathlib.Core.Path.{refl, ◌∙◌}
use native.Mathlib.Omega.{arith}
use lib.Bits.{bit_and, mask_lt}
use lib.ListN.{get_or}
use Rattle.markers.specs.Marker.{small}
use Rattle.markers.specs.declared.kind.Leaf.TheVariants as L
use Rattle.markers.specs.declared.marker.Kind.TheVariants as K
use Rattle.markers.proofs.Markers.{small-string}
use Rattle.markers.proofs.Extents.{key-missing, by-key-kind}
use Rattle.markers.proofs.extent.key_extent_at.Goals as goal

pub returns-then-message-at : goal.returns-then-message-at
returns-then-message-at c = let a = c.args in rw c.at.ensures (key-missing a.message.now a.at c.if-message-at.true)

pub overflow_cast-marker : goal.overflow_cast-marker
overflow_cast-marker c = omega (arith, mask_lt ((get_or c.args.message.now c.args.at 0)) 4)

pub returns-then-marker-eq8 : goal.returns-then-marker-eq8
returns-then-marker-eq8 c =
    let a = c.args in
    c.small_string.ensures
    ∙ by-key-kind a.message.now a.at c.if-message-at.false (small (K.Leaf L.String) (bit_and ((get_or c.args.message.now c.args.at 0)) 15)) (small-string ((get_or c.args.message.now c.args.at 0)) c.if-marker-eq8.true) (K.Leaf L.String) refl
