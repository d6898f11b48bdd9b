-- `meulhaton::calls::meulhaton_close` meets its contract, by way of `connection::close`. Assumes nothing.
use Rattle.record.specs.Calls.{close_of}
use Rattle.meulhaton_calls.proofs.Replying.{in-numbers-close}
use Rattle.meulhaton.proofs.Replying.{in-numbers, as_call}
use Rattle.meulhaton.proofs.calls.meulhaton_close.Goals as goal

pub returns : goal.returns
returns c = as_call (in-numbers-close c.args.connection.now) (in-numbers (close_of c.args.connection.now) c.close.ensures c.from.ensures)
