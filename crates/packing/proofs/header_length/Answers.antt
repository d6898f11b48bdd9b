-- `packing::header_length` meets its contract. Assumes nothing.
use native.Mathlib.Omega.{arith}
use borrow.Author.Tests.{lt-ltb, le-ltb}
use Rattle.numbers.specs.BigEndian.{holds}
use Rattle.packing.proofs.Packing.{narrowest-most}
use Rattle.packing.proofs.header_length.Goals as goal

pub returns-then-size-lt16 : goal.returns-then-size-lt16
returns-then-size-lt16 c = rw (lt-ltb c.args.size 16 c.if-size-lt16.true)

pub overflow_add-result : goal.overflow_add-result
overflow_add-result c = let n = c.args.size in omega (arith, narrowest-most (λ w. holds w n))

pub returns-else-size-lt16 : goal.returns-else-size-lt16
returns-else-size-lt16 c = rw (le-ltb c.args.size 16 c.if-size-lt16.false, c.size_width.ensures)
