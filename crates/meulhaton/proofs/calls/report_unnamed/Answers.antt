-- `meulhaton::calls::report_unnamed` meets its contract, by way of the step on the record's parts. Assumes nothing.
use Rattle.std.proofs.Common.{ap}
use Rattle.meulhaton_calls.specs.Calls.{ReplyAfter}
use Rattle.meulhaton.proofs.calls.report_unnamed.Goals as goal

pub returns : goal.returns
returns c = (ap (λ (w : ReplyAfter). w.connection) c.step-after.ensures, ap (λ (w : ReplyAfter). w.reply) c.step-after.ensures)
