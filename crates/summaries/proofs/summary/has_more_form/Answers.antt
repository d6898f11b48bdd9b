-- `summaries::summary::has_more_form` meets its contract. Assumes nothing.
use Rattle.summaries.proofs.Summaries.{more-form, last-form}
use Rattle.summaries.proofs.summary.has_more_form.Goals as goal

pub returns-then-more : goal.returns-then-more
returns-then-more c = rw c.if-more.true more-form

pub returns-else-more : goal.returns-else-more
returns-else-more c = rw c.if-more.false last-form
