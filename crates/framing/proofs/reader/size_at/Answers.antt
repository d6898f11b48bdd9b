-- `reader::size_at` meets its contract. Assumes nothing.
use mathlib.Core.Path.{sym}
use native.Mathlib.Omega.{arith}
use Prim.Native.Nat.{◌+◌}
use Rattle.numbers.proofs.BigEndian.{big-two}
use Rattle.framing.proofs.reader.size_at.Goals as goal

pub overflow_cast-result : goal.overflow_cast-result
overflow_cast-result c = omega (arith, c.type_inv.input c.args.at)

pub overflow_mul-result : goal.overflow_mul-result
overflow_mul-result c = omega (arith, c.type_inv.input c.args.at)

pub overflow_cast-result-2 : goal.overflow_cast-result-2
overflow_cast-result-2 c = omega (arith, c.type_inv.input (c.args.at + 1))

pub overflow_add-result-2 : goal.overflow_add-result-2
overflow_add-result-2 c =
    let a = c.args in
    let g = c.type_inv.input in
    omega (arith, g a.at, g (a.at + 1))

pub returns : goal.returns
returns c =
    let a = c.args in
    let g = c.type_inv.input in
    (sym (big-two a.input.now a.at (omega arith)), omega (arith, g a.at, g (a.at + 1)))
