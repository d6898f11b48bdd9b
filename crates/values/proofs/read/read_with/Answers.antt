-- `values::read::read_with` meets its contract. Assumes nothing.
use native.Mathlib.Omega.{arith}
use Rattle.values.proofs.read.read_with.Goals as goal

pub whole_as_slice-value : goal.whole_as_slice-value
whole_as_slice-value g c = omega (arith, c.requires.1)
