-- `meulhaton::calls::report_named` meets its contract, by way of `connection::report`. Assumes nothing.
use Rattle.std.proofs.Common.{ap}
use Rattle.states.specs.declared.answers.Outcome.{Outcome}
use Rattle.record.specs.Calls.{report_of}
use Rattle.meulhaton_calls.specs.Calls.{in_numbers}
use Rattle.meulhaton.proofs.Replying.{in-numbers, as_call}
use Rattle.meulhaton.proofs.calls.report_named.Goals as goal

pub returns : goal.returns
returns c =
    let h = c.args.connection.now in
    as_call (ap (λ (o : Outcome). in_numbers (report_of h o)) c.outcome_of.ensures) (in-numbers (report_of h c.outcome_of.result) c.report.ensures c.from.ensures)
