-- Functions `values::walk::skip_value` and `skip_values` meet their contracts. Assumes nothing.
use Rattle.std.proofs.Common.{sym, ◌∙◌, subst, arith}
use mathlib.Core.Path.{ap}
use Rattle.std.specs.Prelude.{Ok}
use Rattle.values.specs.Walk.{skip_within}
use Rattle.markers.specs.declared.extent.Extent.{Extent}
use Rattle.markers.specs.declared.kind.Container.TheVariants as C
use Rattle.markers.proofs.Extents.{Inside, extent-inside, room_for, count-bound}
use Rattle.values.proofs.Passing.{ok-some, ok-none, skip-leaf, skip-nothing, skip-as, skip-no-tag, skip-fields, past-none, past-done, past_next, past_stop}
use Rattle.values.proofs.walk.+skip_value_skip_values.Goals as goal

-- ---- one value
pub skip_value-returns-in_err-start : goal.skip_value-returns-in_err-start
skip_value-returns-in_err-start t c =
    let a = c.args in
    let n = ok-none _ _ c.in_err-start.ensures.value c.extent_at.ensures in
    c.from_residual.ensures ∙ skip-nothing a.message.now a.depth a.at n.0 n.1

pub skip_value-overflow_add-result : goal.skip_value-overflow_add-result
skip_value-overflow_add-result t c =
    let a = c.args in
    let e = ap (λ (x : Extent). Ok x) (sym c.in-Leaf.is) ∙ ok-some _ _ _ c.in_ok-start.ensures.value c.extent_at.ensures in
    let i = subst (Inside a.message.now a.at) (sym e) (extent-inside a.message.now a.at a.depth) in
    omega (arith, i.inside)

pub skip_value-overflow_sub-depth : goal.skip_value-overflow_sub-depth
skip_value-overflow_sub-depth t c =
    let a = c.args in
    let e = ap (λ (x : Extent). Ok x) (sym c.in-Container.is) ∙ ok-some _ _ _ c.in_ok-start.ensures.value c.extent_at.ensures in
    room_for a.message.now a.depth a.at _ _ _ e

pub skip_value-skip_values-requires : goal.skip_value-skip_values-requires
skip_value-skip_values-requires t c =
    let a = c.args in
    let e = ap (λ (x : Extent). Ok x) (sym c.in-Container.is) ∙ ok-some _ _ _ c.in_ok-start.ensures.value c.extent_at.ensures in
    (omega (arith, room_for a.message.now a.depth a.at _ _ _ e), tt)

pub skip_value-overflow_mul-count : goal.skip_value-overflow_mul-count
skip_value-overflow_mul-count t c =
    let a = c.args in
    let e = ap (λ (x : Extent). Ok x) (sym c.in-Container.is) ∙ ok-some _ _ _ c.in_ok-start.ensures.value c.extent_at.ensures in
    omega (arith, count-bound a.message.now a.depth a.at _ _ _ (λ i. (c.type_inv.message i).fits) e)

pub skip_value-overflow_sub-depth-in-Dictionary : goal.skip_value-overflow_sub-depth-in-Dictionary
skip_value-overflow_sub-depth-in-Dictionary t c =
    let a = c.args in
    let e = ap (λ (x : Extent). Ok x) (sym c.in-Container.is) ∙ ok-some _ _ _ c.in_ok-start.ensures.value c.extent_at.ensures in
    room_for a.message.now a.depth a.at _ _ _ e

pub skip_value-skip_values-requires-in-Dictionary : goal.skip_value-skip_values-requires-in-Dictionary
skip_value-skip_values-requires-in-Dictionary t c =
    let a = c.args in
    let e = ap (λ (x : Extent). Ok x) (sym c.in-Container.is) ∙ ok-some _ _ _ c.in_ok-start.ensures.value c.extent_at.ensures in
    (omega (arith, room_for a.message.now a.depth a.at _ _ _ e), tt)

pub skip_value-returns-then-message-start : goal.skip_value-returns-then-message-start
skip_value-returns-then-message-start t c =
    let a = c.args in
    let e = ap (λ (x : Extent). Ok x) (sym c.in-Container.is) ∙ ok-some _ _ _ c.in_ok-start.ensures.value c.extent_at.ensures in
    skip-no-tag a.message.now a.depth a.at _ _ _ e c.in-Structure.is c.if-message-start.true

pub skip_value-overflow_sub-depth-in-Structure : goal.skip_value-overflow_sub-depth-in-Structure
skip_value-overflow_sub-depth-in-Structure t c =
    let a = c.args in
    let e = ap (λ (x : Extent). Ok x) (sym c.in-Container.is) ∙ ok-some _ _ _ c.in_ok-start.ensures.value c.extent_at.ensures in
    room_for a.message.now a.depth a.at _ _ _ e

pub skip_value-skip_values-requires-in-Structure : goal.skip_value-skip_values-requires-in-Structure
skip_value-skip_values-requires-in-Structure t c =
    let a = c.args in
    let e = ap (λ (x : Extent). Ok x) (sym c.in-Container.is) ∙ ok-some _ _ _ c.in_ok-start.ensures.value c.extent_at.ensures in
    (omega (arith, room_for a.message.now a.depth a.at _ _ _ e), tt)

pub skip_value-returns-in-Leaf : goal.skip_value-returns-in-Leaf
skip_value-returns-in-Leaf t c =
    let a = c.args in
    let e = ap (λ (x : Extent). Ok x) (sym c.in-Leaf.is) ∙ ok-some _ _ _ c.in_ok-start.ensures.value c.extent_at.ensures in
    skip-leaf a.message.now a.depth a.at _ _ _ e

pub skip_value-returns-in-List : goal.skip_value-returns-in-List
skip_value-returns-in-List t c =
    let a = c.args in
    let e = ap (λ (x : Extent). Ok x) (sym c.in-Container.is) ∙ ok-some _ _ _ c.in_ok-start.ensures.value c.extent_at.ensures in
    c.skip_values.ensures ∙ skip-as a.message.now a.depth a.at _ _ _ e C.List c.in-List.is

pub skip_value-returns-in-Dictionary : goal.skip_value-returns-in-Dictionary
skip_value-returns-in-Dictionary t c =
    let a = c.args in
    let e = ap (λ (x : Extent). Ok x) (sym c.in-Container.is) ∙ ok-some _ _ _ c.in_ok-start.ensures.value c.extent_at.ensures in
    c.skip_values-in-Dictionary.ensures ∙ skip-as a.message.now a.depth a.at _ _ _ e C.Dictionary c.in-Dictionary.is

pub skip_value-returns-else-message-start : goal.skip_value-returns-else-message-start
skip_value-returns-else-message-start t c =
    let a = c.args in
    let e = ap (λ (x : Extent). Ok x) (sym c.in-Container.is) ∙ ok-some _ _ _ c.in_ok-start.ensures.value c.extent_at.ensures in
    c.skip_values-in-Structure.ensures ∙ skip-fields a.message.now a.depth a.at _ _ _ e c.in-Structure.is c.if-message-start.false

-- ---- several
pub skip_values-loop-init : goal.skip_values-loop-init
skip_values-loop-init t c = let a = c.args in past-none (skip_within a.message.now a.depth) a.count a.first

pub skip_values-skip_value-requires : goal.skip_values-skip_value-requires
skip_values-skip_value-requires t c = (omega arith, tt)

pub skip_values-returns-in_err-at : goal.skip_values-returns-in_err-at
skip_values-returns-in_err-at t c =
    let a = c.args in
    let l = c.loop in
    c.from_residual.ensures ∙ past_stop (skip_within a.message.now a.depth) a.count a.first l.counter l.at l.invariant c.loop-test.true c.in_err-at.ensures

pub skip_values-loop-preserved : goal.skip_values-loop-preserved
skip_values-loop-preserved t c =
    let a = c.args in
    let l = c.loop in
    past_next (skip_within a.message.now a.depth) a.count a.first l.counter l.at l.invariant c.loop-test.true _ c.in_ok-at.ensures

pub skip_values-returns : goal.skip_values-returns
skip_values-returns t c =
    let a = c.args in
    let l = c.loop in
    past-done (skip_within a.message.now a.depth) a.count a.first l.counter l.at l.invariant c.loop-test.false
