-- `steps::report::step` meets its contract: by its opening, and whether one is in flight and waits. Assumes nothing.
use mathlib.Core.Path.{◌∙◌}
use mathlib.Core.Logic.{⊎_elim}
use Prim.Native.Nat.{◌<◌}
use native.Mathlib.Omega.{arith}
use borrow.Author.Tests.{eq-eqb}
use Rattle.record.specs.Record.{joined}
use Rattle.record.specs.Calls.{nowhere}
use Rattle.record.proofs.Standing as S
use Rattle.record.proofs.Standing.{kept-bounded, next-most, room}
use Rattle.steps.proofs.Calls.{refuses, Found, found}
use Rattle.steps.proofs.Outcomes.{flies, none-flies, none-waits}
use Rattle.steps.proofs.report.step.Goals as goal

pub returns-in-Err : goal.returns-in-Err
returns-in-Err c =
    let a = c.args in
    rw c.new.ensures (refuses nowhere (joined a.control a.streams.now a.queue.now) _ c.in-Err.ensures.told)

pub returns-then-control-ne1 : goal.returns-then-control-ne1
returns-then-control-ne1 c =
    let a = c.args in
    rw c.new-then-control-ne1.ensures
    (⊎_elim (none-flies a.control a.streams.now a.queue.now a.outcome c.in-Ok.ensures.told)
    (λ e. none-waits a.control a.streams.now a.queue.now a.outcome c.in-Ok.ensures.told e.0 e.1) c.then-control-ne1.either)

pub report_first-requires : goal.report_first-requires
report_first-requires c =
    let a = c.args in
    let w = joined a.control a.streams.now a.queue.now in
    let f : Found w c.in-Ok.state = found w c.in-Ok.ensures.told in
    let some : 0 < a.control.waiting = omega (arith, c.if-control-eq0.false) in (
      record {
        waits = record { bounds = kept-bounded w f.keeps; some = some; below = room a.control a.streams.now a.queue.now f.keeps f.alive some };
        long = c.in-Ok.ensures.sized;
        next = next-most w f.keeps;
        flies = S.flies a.control a.streams.now a.queue.now f.keeps (eq-eqb a.control.in_flight 1 c.if-control-ne1.false) some;
      },
      f.state,
    )

pub returns : goal.returns
returns c =
    let a = c.args in
    c.report_first.ensures ∙ flies a.control a.streams.now a.queue.now a.outcome c.in-Ok.ensures.told c.if-control-ne1.false
