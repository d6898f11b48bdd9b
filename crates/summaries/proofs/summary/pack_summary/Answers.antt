-- `summaries::summary::pack_summary` meets its contract. Assumes nothing.
use Rattle.summaries.proofs.Summaries.{ignored-form, success-form}
use Rattle.summaries.proofs.summary.pack_summary.Goals as goal

pub returns-in-Ignored : goal.returns-in-Ignored
returns-in-Ignored c = rw (c.in-Ignored.is, ← ignored-form) c.pack_form.ensures

pub returns-in-Success : goal.returns-in-Success
returns-in-Success c = rw (c.in-Success.is, ← success-form) c.pack_form-in-Success.ensures
