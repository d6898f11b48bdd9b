-- `meulhaton::calls::meulhaton_arrive` meets its contract, by way of `connection::arrive`. Assumes nothing.
use Rattle.std.proofs.Common.{ap, ◌∙◌}
use Rattle.states.specs.declared.request.Request.{Request}
use Rattle.record.specs.Calls.{arrive_of}
use Rattle.meulhaton_calls.specs.Calls.{in_numbers}
use Rattle.meulhaton_calls.proofs.Replying.{in-numbers-arrive}
use Rattle.meulhaton.proofs.Replying.{in-numbers, as_call}
use Rattle.meulhaton.proofs.calls.meulhaton_arrive.Goals as goal

pub returns : goal.returns
returns c =
    let h = c.args.connection.now in
    as_call (ap (λ (r : Request). in_numbers (arrive_of h r)) c.arriving.ensures ∙ in-numbers-arrive h c.args.request) (in-numbers (arrive_of h c.arriving.result) c.arrive.ensures c.from.ensures)
