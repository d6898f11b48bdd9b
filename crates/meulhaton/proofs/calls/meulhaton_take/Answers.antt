-- `meulhaton::calls::meulhaton_take` meets its contract, by way of `connection::take`. Assumes nothing.
use Rattle.record.specs.Calls.{take_of}
use Rattle.meulhaton_calls.proofs.Replying.{in-numbers-take}
use Rattle.meulhaton.proofs.Replying.{in-numbers, as_call}
use Rattle.meulhaton.proofs.calls.meulhaton_take.Goals as goal

pub returns : goal.returns
returns c = as_call (in-numbers-take c.args.connection.now) (in-numbers (take_of c.args.connection.now) c.take.ensures c.from.ensures)
