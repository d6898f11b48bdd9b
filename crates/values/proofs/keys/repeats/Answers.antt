-- `values::keys::repeats` meets its contract. Assumes nothing.
use mathlib.Core.Path.{◌∙◌}
use Prim.Native.Nat.{◌-◌}
use native.Mathlib.Omega.{arith}
use Rattle.values.proofs.KeySearch.{none_left, key_of_other_size, key_of_other_byte, equal-key}
use Rattle.values.proofs.keys.repeats.Goals as goal

pub search-preserved-then-size-content : goal.search-preserved-then-size-content
search-preserved-then-size-content c =
    let a = c.args in
    let l = c.search in (
      l.invariant.0,
      key_of_other_size a.message.now a.keys.now a.content.now l.i _ (omega arith) l.auto.i l.invariant.1 c.requires _ _ c.from-start.ensures c.from-size.ensures
          c.if-size-content.true,
    )

pub search-preserved-then-message-start : goal.search-preserved-then-message-start
search-preserved-then-message-start c =
    let a = c.args in
    let l = c.search in (
      l.invariant.0,
      key_of_other_byte a.message.now a.keys.now a.content.now l.i _ (omega arith) l.auto.i l.invariant.1 c.requires _ _ c.from-start.ensures c.from-size.ensures
          (c.from-size.result - 1) (omega (arith, c.if-content-gt0.true, c.if-size-content.false)) c.if-message-start.true,
    )

pub search-preserved : goal.search-preserved
search-preserved c =
    let a = c.args in
    let l = c.search in (
      l.invariant.0,
      key_of_other_byte a.message.now a.keys.now a.content.now l.i _ (omega arith) l.auto.i l.invariant.1 c.requires _ _ c.from-start.ensures c.from-size.ensures
          c.loop-k.k c.loop-k-test.true c.if-message-start-2.true,
    )

pub returns-after-search : goal.returns-after-search
returns-after-search c =
    let a = c.args in
    let l = c.search in
    l.invariant.0 ∙ none_left a.message.now a.keys.now a.content.now l.i (omega arith) l.invariant.1

pub returns-after-loop-k : goal.returns-after-loop-k
returns-after-loop-k c =
    let a = c.args in
    let l = c.search in
    equal-key a.message.now a.keys.now a.content.now l.i _ (omega arith) l.auto.i l.invariant.1 c.requires _ _ c.from-start.ensures c.from-size.ensures
    c.if-size-content.false (λ k h. c.loop-k.invariant k (omega arith))
