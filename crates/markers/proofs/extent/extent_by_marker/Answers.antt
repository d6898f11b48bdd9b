-- `markers::extent::extent_by_marker` meets its contract. Assumes nothing.
use mathlib.Core.Path.{sym, ◌∙◌, subst}
use Prim.Native.Nat.{◌≤◌}
use lib.ListN.{get_or}
use Rattle.markers.specs.declared.marker.Kind.TheVariants as K
use Rattle.markers.specs.declared.marker.Marker.{Marker}
use Rattle.markers.proofs.Markers.{skip-one}
use Rattle.markers.proofs.Extents.{by_kind, too-deep, deep-enough}
use Rattle.markers.proofs.extent.extent_by_marker.Goals as goal

pub leaf_extent-requires : goal.leaf_extent-requires
leaf_extent-requires c = (c.requires, subst (λ (m : Marker). m.skip ≤ 1) (sym c.from-marker.ensures) (skip-one (get_or c.args.message.now c.args.at 0)))

pub container_extent-requires : goal.container_extent-requires
container_extent-requires c = (c.requires, subst (λ (m : Marker). m.skip ≤ 1) (sym c.from-marker.ensures) (skip-one (get_or c.args.message.now c.args.at 0)))

pub returns-in-Reserved : goal.returns-in-Reserved
returns-in-Reserved c =
    let a = c.args in
    rw c.at.ensures (by_kind a.message.now a.at c.requires c.from-marker.result c.from-marker.ensures a.depth K.Reserved (sym c.in-Reserved.is))

pub returns-in-Leaf : goal.returns-in-Leaf
returns-in-Leaf c =
    let a = c.args in
    c.leaf_extent.ensures
    ∙ by_kind a.message.now a.at c.requires c.from-marker.result c.from-marker.ensures a.depth (K.Leaf c.in-Leaf.kind) (sym c.in-Leaf.is)

pub returns-then-depth-eq0 : goal.returns-then-depth-eq0
returns-then-depth-eq0 c =
    let a = c.args in
    rw c.at-then-depth-eq0.ensures (too-deep a.message.now a.at c.requires c.from-marker.result c.from-marker.ensures a.depth c.in-Container.kind (sym c.in-Container.is)
    c.if-depth-eq0.true)

pub returns-else-depth-eq0 : goal.returns-else-depth-eq0
returns-else-depth-eq0 c =
    let a = c.args in
    c.container_extent.ensures
    ∙ deep-enough a.message.now a.at c.requires c.from-marker.result c.from-marker.ensures a.depth c.in-Container.kind (sym c.in-Container.is)
    c.if-depth-eq0.false
