-- `markers::extent::key_by_marker` meets its contract. Assumes nothing.
use mathlib.Core.Path.{◌≡◌, sym, ap, ◌∙◌, subst}
use Prim.Native.Nat.{◌≤◌}
use lib.ListN.{get_or}
use Rattle.std.proofs.Common.{rules}
use Rattle.markers.specs.declared.marker.Kind.TheVariants as K
use Rattle.markers.specs.declared.kind.Leaf.TheVariants as L
use Rattle.markers.specs.declared.kind.Leaf.{Leaf}
use Rattle.markers.specs.declared.marker.Marker.{Marker}
use Rattle.markers.proofs.Markers.{skip-one}
use Rattle.markers.proofs.Extents.{by-key-kind, key-other}
use Rattle.markers.proofs.extent.key_by_marker.Goals as goal

pub leaf_span-requires : goal.leaf_span-requires
leaf_span-requires c = (c.requires, subst (λ (m : Marker). m.skip ≤ 1) (sym c.from-marker.ensures) (skip-one (get_or c.args.message.now c.args.at 0)))

pub returns-in-Reserved : goal.returns-in-Reserved
returns-in-Reserved c = rw c.at.ensures (by-key-kind c.args.message.now c.args.at c.requires c.from-marker.result c.from-marker.ensures K.Reserved (sym c.in-Reserved.is))

pub returns-in-Leaf-String : goal.returns-in-Leaf-String
returns-in-Leaf-String c =
    let e : c.in-Leaf-String.field-0 ≡ L.String = rw c.in-Leaf-String.is at c.in-Leaf-String.field-0-is in
    c.leaf_span.ensures
    ∙ by-key-kind c.args.message.now c.args.at c.requires c.from-marker.result c.from-marker.ensures (K.Leaf L.String) (ap (λ (l : Leaf). K.Leaf l) (sym e) ∙ sym c.in-Leaf-String.is)

pub returns-in_default : goal.returns-in_default
returns-in_default c =
    rw c.at-not_string.ensures (key-other c.args.message.now c.args.at c.requires c.from-marker.result c.from-marker.ensures c.in_default.field-0 (sym c.in_default.is) (search rules))

pub returns-in_default-2 : goal.returns-in_default-2
returns-in_default-2 c = rw c.at-not_string.ensures (by-key-kind c.args.message.now c.args.at c.requires c.from-marker.result c.from-marker.ensures (K.Container c.in_default.field-0) (sym c.in_default.is))
