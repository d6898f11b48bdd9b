-- `entries::view::first_wrong` meets its contract. Assumes nothing.
use native.Mathlib.Omega.{arith}
use Rattle.entries.proofs.Peeking.{string-within}
use Rattle.entries.proofs.Walking.{all-strings, wrong-here, wrong-later}
use Rattle.entries.proofs.view.first_wrong.Goals as goal

pub returns-in_default : goal.returns-in_default
returns-in_default c =
    let a = c.args in let l = c.loop in
    wrong-here a.message.now a.count a.first l.counter l.at l.invariant c.loop-test.true c.in_default.ensures

pub overflow_add-at : goal.overflow_add-at
overflow_add-at c = let w = string-within _ _ _ c.in-Some.ensures in omega (arith, w.inside)

pub loop-preserved : goal.loop-preserved
loop-preserved c =
    let a = c.args in let l = c.loop in
    wrong-later a.message.now a.count a.first l.counter l.at l.invariant c.loop-test.true _ c.in-Some.ensures

pub returns : goal.returns
returns c = let a = c.args in let l = c.loop in all-strings a.message.now a.count a.first l.counter l.at l.invariant (omega arith)
