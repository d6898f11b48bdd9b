-- `input::take_read` meets its contract: what is taken lies inside. Assumes nothing.
use Rattle.std.proofs.Common.{arith}
use Rattle.lines.proofs.Blocks.{taken-fits}
use Rattle.console.proofs.input.take_read.Goals as goal

pub overflow_add-input : goal.overflow_add-input
overflow_add-input c = omega (arith, taken-fits _ c.take_line-line.ensures.taken)
