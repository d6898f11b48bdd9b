-- `summaries::summary::stream_length` meets its contract. Assumes nothing.
use native.Mathlib.Omega.{arith}
use Rattle.summaries.proofs.Summaries.{integer-behind, stream-number, stream-size}
use Rattle.summaries.proofs.summary.stream_length.Goals as goal

pub overflow_add-result : goal.overflow_add-result
overflow_add-result c = omega (arith, integer-behind _ _ c.integer_length.ensures)

pub returns : goal.returns
returns c = stream-size c.args.number _ _ (stream-number c.ranges.number) c.integer_length.ensures
