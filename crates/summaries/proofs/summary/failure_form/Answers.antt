-- `summaries::summary::failure_form` meets its contract. Assumes nothing.
use Rattle.states.specs.declared.answers.Failure.TheVariants as F
use Rattle.summaries.proofs.Summaries.{failure-form}
use Rattle.summaries.proofs.summary.failure_form.Goals as goal

pub returns-in-StreamsFull : goal.returns-in-StreamsFull
returns-in-StreamsFull c = rw c.in-StreamsFull.is (failure-form F.StreamsFull)

pub returns-in-StreamUnknown : goal.returns-in-StreamUnknown
returns-in-StreamUnknown c = rw c.in-StreamUnknown.is (failure-form F.StreamUnknown)

pub returns-in-EngineFailed : goal.returns-in-EngineFailed
returns-in-EngineFailed c = rw c.in-EngineFailed.is (failure-form F.EngineFailed)
