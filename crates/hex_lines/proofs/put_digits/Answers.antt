-- `hex_lines::put_digits` meets its contract. Assumes nothing.
use native.Mathlib.Omega.{arith}
use Rattle.hex_lines.proofs.Lines.{digits-put-next, digits-put-done}
use Rattle.hex_lines.proofs.put_digits.Goals as goal

pub loop-i-preserved : goal.loop-i-preserved
loop-i-preserved c =
    let l = c.loop-i in
    digits-put-next c.args.bytes.now c.args.out.now l.out l.i l.invariant c.digit_of.result c.digit_of-in-loop-i.result
    (omega arith) c.requires c.digit_of.ensures c.digit_of-in-loop-i.ensures

pub returns : goal.returns
returns c = let l = c.loop-i in digits-put-done _ _ l.out l.i l.invariant (omega arith)
