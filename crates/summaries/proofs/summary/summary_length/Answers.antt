-- `summaries::summary::summary_length` meets its contract. Assumes nothing.
use mathlib.Core.Path.{ap}
use lib.ListN.{length}
use Rattle.summaries.proofs.Summaries.{ignored-form, success-form, has-more-size}
use Rattle.summaries.proofs.summary.summary_length.Goals as goal

pub returns-in-Ignored : goal.returns-in-Ignored
returns-in-Ignored c = rw c.in-Ignored.is (ap length ignored-form)

pub returns-in-Success : goal.returns-in-Success
returns-in-Success c = rw c.in-Success.is (ap length success-form)

pub returns-in-HasMore : goal.returns-in-HasMore
returns-in-HasMore c = rw c.in-HasMore.is (has-more-size c.in-HasMore.field-0)
