-- `slices::copy` meets its contract. Assumes nothing.
use native.Mathlib.Omega.{arith}
use Rattle.slices.proofs.Parts.{fits-yes, copying-none, copying-next, copying-done}
use Rattle.slices.proofs.copy.Goals as goal

pub loop-i-init : goal.loop-i-init
loop-i-init c =
    let a = c.args in
    copying-none a.source.now a.start a.size a.target.now a.at

pub loop-i-preserved : goal.loop-i-preserved
loop-i-preserved c =
    let a = c.args in
    let l = c.loop-i in
    copying-next a.source.now a.start a.size a.target.now a.at l.target l.i (omega arith) (omega arith) l.invariant

pub returns-clause-filled : goal.returns-clause-filled
returns-clause-filled c =
    let a = c.args in
    let l = c.loop-i in
    rw (fits-yes a.source.now a.start a.size a.target.now a.at (omega arith) (omega arith))
    (copying-done a.source.now a.start a.size a.target.now a.at l.target l.i (omega arith) l.invariant)
