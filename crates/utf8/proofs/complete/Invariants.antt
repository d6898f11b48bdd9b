-- `utf8::complete` meets its contract. The loop's invariant: the lead byte and so many more are read. Assumes nothing.
use Rattle.std.proofs.Common.{◌+◌}
use Rattle.utf8.proofs.Sequences.{Reading}
use Rattle.utf8.proofs.complete.Given as goal

abbrev pub invariant-loop-b : goal.invariant-loop-b
invariant-loop-b l = Reading l.bytes l.at l.size l.least l.bits l.scalar (l.b-index + 1)
