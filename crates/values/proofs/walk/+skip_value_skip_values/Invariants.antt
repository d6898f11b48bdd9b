-- Functions `values::walk::skip_value` and `skip_values` meet their contracts: the measure is twice the room for open containers, and one more where
-- several values are passed. Assumes nothing.
use Rattle.std.proofs.Common.{◌+◌, ◌*◌}
use Rattle.values.specs.Walk.{skip_within}
use Rattle.values.proofs.Passing.{PastLeft}
use Rattle.values.proofs.walk.+skip_value_skip_values.Given as goal

abbrev pub decreases-skip_value : goal.decreases-skip_value
decreases-skip_value l = 2 * l.depth

abbrev pub decreases-skip_values : goal.decreases-skip_values
decreases-skip_values l = 2 * l.depth + 1

abbrev pub invariant-skip_values-loop : goal.invariant-skip_values-loop
invariant-skip_values-loop l = PastLeft (skip_within l.message l.depth) l.count l.first l.counter l.at
