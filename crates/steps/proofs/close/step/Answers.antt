-- `steps::close::step` meets its contract: by its opening. Assumes nothing.
use Rattle.record.specs.Record.{joined}
use Rattle.record.specs.Calls.{nowhere}
use Rattle.steps.proofs.Calls.{refuses}
use Rattle.steps.proofs.Leaving.{ends}
use Rattle.steps.proofs.close.step.Goals as goal

pub returns-in-Ok : goal.returns-in-Ok
returns-in-Ok c =
    let a = c.args in
    rw (c.new.ensures, c.defunct.ensures) (ends (joined a.control a.streams.now a.queue.now) c.in-Ok.ensures.told c.in-Ok.ensures.sized)

pub returns-in-Err : goal.returns-in-Err
returns-in-Err c =
    let a = c.args in
    rw c.new-in-Err.ensures (refuses nowhere (joined a.control a.streams.now a.queue.now) _ c.in-Err.ensures.told)
