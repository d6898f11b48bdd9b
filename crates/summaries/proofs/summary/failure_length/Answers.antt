-- `summaries::summary::failure_length` meets its contract. Assumes nothing.
use mathlib.Core.Path.{ap}
use lib.ListN.{length}
use Rattle.states.specs.declared.answers.Failure.TheVariants as F
use Rattle.summaries.proofs.Summaries.{failure-form}
use Rattle.summaries.proofs.summary.failure_length.Goals as goal

pub returns-in-StreamsFull : goal.returns-in-StreamsFull
returns-in-StreamsFull c = rw c.in-StreamsFull.is (ap length (failure-form F.StreamsFull))

pub returns-in-StreamUnknown : goal.returns-in-StreamUnknown
returns-in-StreamUnknown c = rw c.in-StreamUnknown.is (ap length (failure-form F.StreamUnknown))

pub returns-in-EngineFailed : goal.returns-in-EngineFailed
returns-in-EngineFailed c = rw c.in-EngineFailed.is (ap length (failure-form F.EngineFailed))
