-- `hex_lines::put_digits` meets its contract: the digits of the i bytes passed stand in front. Assumes nothing.
use Rattle.hex_lines.proofs.Lines.{Digits-put}
use Rattle.hex_lines.proofs.put_digits.Given as goal

abbrev pub invariant-loop-i : goal.invariant-loop-i
invariant-loop-i l = Digits-put l.bytes l.initial.out l.out l.i
