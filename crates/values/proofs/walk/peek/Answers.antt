-- `values::walk::peek` meets its contract. Assumes nothing.
use mathlib.Core.Path.{sym, ap, ◌∙◌, subst}
use Rattle.std.specs.Prelude.{Ok, Some}
use Rattle.markers.specs.Extents.{most_open}
use Rattle.markers.specs.declared.extent.Extent.{Extent}
use Rattle.values.specs.declared.head.Head.{Head}
use Rattle.markers.proofs.Extents.{Inside, extent-inside}
use Rattle.values.proofs.Passing.{ok-some, ok-none, peek-leaf, peek-list, peek-dictionary, peek-no-tag, peek-tag, peek-nothing}
use Rattle.values.proofs.walk.peek.Goals as goal

pub returns-in_err-kind : goal.returns-in_err-kind
returns-in_err-kind c =
    let a = c.args in
    let n = ok-none _ _ c.in_err-kind.ensures.value c.extent_at.ensures in
    c.from_residual.ensures ∙ peek-nothing a.message.now a.at n.0 n.1

pub leaf_head-requires : goal.leaf_head-requires
leaf_head-requires c =
    let a = c.args in
    let e = ap (λ (x : Extent). Ok x) (sym c.in-Leaf.is) ∙ ok-some _ _ _ c.in_ok-kind.ensures.value c.extent_at.ensures in
    let i = subst (Inside a.message.now a.at) (sym e) (extent-inside a.message.now a.at most_open) in
    (i.inside, i.sized)

pub returns-then-message-start : goal.returns-then-message-start
returns-then-message-start c =
    let a = c.args in
    let e = ap (λ (x : Extent). Ok x) (sym c.in-Container.is) ∙ ok-some _ _ _ c.in_ok-kind.ensures.value c.extent_at.ensures in
    peek-no-tag a.message.now a.at _ _ _ e c.in-Structure.is c.if-message-start.true

pub returns-in-Leaf : goal.returns-in-Leaf
returns-in-Leaf c =
    let a = c.args in
    let e = ap (λ (x : Extent). Ok x) (sym c.in-Leaf.is) ∙ ok-some _ _ _ c.in_ok-kind.ensures.value c.extent_at.ensures in
    ap (λ (h : Head). Some h) c.leaf_head.ensures ∙ peek-leaf a.message.now a.at _ _ _ e

pub returns-in-List : goal.returns-in-List
returns-in-List c =
    let a = c.args in
    let e = ap (λ (x : Extent). Ok x) (sym c.in-Container.is) ∙ ok-some _ _ _ c.in_ok-kind.ensures.value c.extent_at.ensures in
    peek-list a.message.now a.at _ _ _ e c.in-List.is

pub returns-in-Dictionary : goal.returns-in-Dictionary
returns-in-Dictionary c =
    let a = c.args in
    let e = ap (λ (x : Extent). Ok x) (sym c.in-Container.is) ∙ ok-some _ _ _ c.in_ok-kind.ensures.value c.extent_at.ensures in
    peek-dictionary a.message.now a.at _ _ _ e c.in-Dictionary.is

pub returns-else-message-start : goal.returns-else-message-start
returns-else-message-start c =
    let a = c.args in
    let e = ap (λ (x : Extent). Ok x) (sym c.in-Container.is) ∙ ok-some _ _ _ c.in_ok-kind.ensures.value c.extent_at.ensures in
    peek-tag a.message.now a.at _ _ _ e c.in-Structure.is c.if-message-start.false
