-- `meulhaton::calls::meulhaton_report` meets its contract, by way of the one or of the other report. Assumes nothing.
use Rattle.std.proofs.Common.{sym, ◌∙◌}
use Rattle.meulhaton_calls.proofs.Replying.{in-numbers-named, in-numbers-unnamed}
use Rattle.meulhaton.proofs.Replying.{as_call}
use Rattle.meulhaton.proofs.calls.meulhaton_report.Goals as goal

pub returns-then-is_outcome : goal.returns-then-is_outcome
returns-then-is_outcome c = as_call (in-numbers-named c.args.connection.now c.args.outcome (sym c.is_outcome.ensures ∙ c.if-is_outcome.true)) c.report_named.ensures

pub returns : goal.returns
returns c = as_call (in-numbers-unnamed c.args.connection.now c.args.outcome (sym c.is_outcome.ensures ∙ c.if-is_outcome.false)) c.report_unnamed.ensures
