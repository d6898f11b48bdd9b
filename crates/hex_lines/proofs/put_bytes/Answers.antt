-- `hex_lines::put_bytes` meets its contract. Assumes nothing.
use mathlib.Core.Path.{refl}
use Prim.Native.Nat.{◌+◌, ◌*◌}
use native.Mathlib.Omega.{arith}
use Rattle.hex_lines.proofs.Lines.{line-digit, bytes-put-next, bytes-put-done}
use Rattle.hex_lines.proofs.put_bytes.Goals as goal

pub value_of-high-requires : goal.value_of-high-requires
value_of-high-requires c = line-digit _ c.requires.line_value (2 * c.loop-i.i) (omega arith)

pub value_of-low-requires : goal.value_of-low-requires
value_of-low-requires c = line-digit _ c.requires.line_value (2 * c.loop-i.i + 1) (omega arith)

pub loop-i-preserved : goal.loop-i-preserved
loop-i-preserved c =
    let l = c.loop-i in
    bytes-put-next c.args.line.now c.args.out.now l.out l.i l.invariant _ (omega arith) c.requires.line_in_bounds
    (rw (c.value_of-high.ensures.0, c.value_of-low.ensures.0) refl)

pub returns : goal.returns
returns c = let l = c.loop-i in bytes-put-done _ _ l.out l.i l.invariant (omega arith)
