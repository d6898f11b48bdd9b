-- `hex_lines::is_line` meets its contract: the line is one if what was seen and what is left of it are digits. Assumes nothing.
use Rattle.hex_lines.proofs.Lines.{Seen}
use Rattle.hex_lines.proofs.is_line.Given as goal

abbrev pub invariant-loop-c : goal.invariant-loop-c
invariant-loop-c l = Seen l.line l.c-index l.others
