-- `steps::streams::remove` meets its contract: one number more is looked at. Assumes nothing.
use native.Mathlib.Omega.{arith}
use borrow.Author.Tests.{eq-eqb, ne_eqb}
use Rattle.steps.proofs.Removing.{kept-gone, kept_more}
use Rattle.steps.proofs.streams.remove.Goals as goal
use Rattle.steps.proofs.streams.remove.Goals.{then-x-number, else-x-number}

pub loop-i-preserved : goal.loop-i-preserved
loop-i-preserved c =
    let a = c.args in
    let l = c.loop-i in
    elim c.if-x-number.branch [
      | then-x-number w ↦ rw (w.streams-is, w.left-is) (kept_more a.number a.streams.now l.streams l.left l.i l.invariant (omega (arith, c.requires)) (ne_eqb _ _ w.if-x-number.true))
      | else-x-number w ↦ rw (w.streams-is, w.left-is) (kept-gone a.number a.streams.now l.streams l.left l.i l.invariant (omega (arith, c.requires)) (eq-eqb _ _ w.if-x-number.false))
    ]
