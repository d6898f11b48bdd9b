-- `steps::take::step` meets its contract: by its opening, and whether one is in flight or none waits. Assumes nothing.
use Prim.Native.Nat.{◌<◌}
use native.Mathlib.Omega.{arith}
use Rattle.record.specs.Record.{joined}
use Rattle.record.specs.Calls.{nowhere}
use Rattle.record.proofs.Standing.{kept-bounded, room}
use Rattle.steps.proofs.Calls.{refuses, Found, found}
use Rattle.steps.proofs.Leaving.{stays-in-flight, stays-empty, comes-to-turn}
use Rattle.steps.proofs.take.step.Goals as goal
use Rattle.steps.proofs.take.step.Goals.{then-control-eq1-via-then-control-eq1, then-control-eq1-via-else-control-eq1+then-control-eq0}

pub returns-in-Err : goal.returns-in-Err
returns-in-Err c =
    let a = c.args in
    rw c.new.ensures (refuses nowhere (joined a.control a.streams.now a.queue.now) _ c.in-Err.ensures.told)

pub returns-then-control-eq1 : goal.returns-then-control-eq1
returns-then-control-eq1 c =
    let a = c.args in
    let w = joined a.control a.streams.now a.queue.now in
    rw c.new-then-control-eq1.ensures
    (elim c.then-control-eq1.branch [
      | then-control-eq1-via-then-control-eq1 x ↦ stays-in-flight w c.in-Ok.ensures.told c.in-Ok.ensures.sized x.if-control-eq1.true
      | then-control-eq1-via-else-control-eq1+then-control-eq0 x ↦ stays-empty w c.in-Ok.ensures.told c.in-Ok.ensures.sized x.if-control-eq1.false x.if-control-eq0.true
    ])

pub take_first-requires : goal.take_first-requires
take_first-requires c =
    let a = c.args in
    let w = joined a.control a.streams.now a.queue.now in
    let f : Found w c.in-Ok.state = found w c.in-Ok.ensures.told in
    let some : 0 < a.control.waiting = omega (arith, c.if-control-eq0.false) in
    (record { bounds = kept-bounded w f.keeps; some = some; below = room a.control a.streams.now a.queue.now f.keeps f.alive some }, (f.state, c.in-Ok.ensures.sized))

pub returns : goal.returns
returns c =
    let a = c.args in
    rw c.take_first.ensures (comes-to-turn (joined a.control a.streams.now a.queue.now) c.in-Ok.ensures.told c.in-Ok.ensures.sized c.if-control-eq1.false)
