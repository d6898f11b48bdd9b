-- `hex_lines::put_bytes` meets its contract: the bytes of the i pairs passed stand in front. Assumes nothing.
use Rattle.hex_lines.proofs.Lines.{Bytes-put}
use Rattle.hex_lines.proofs.put_bytes.Given as goal

abbrev pub invariant-loop-i : goal.invariant-loop-i
invariant-loop-i l = Bytes-put l.line l.initial.out l.out l.i
