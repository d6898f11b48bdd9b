-- The loop's invariant: what is left to copy, copied now, gives what the whole copy gives. Assumes nothing.
use Rattle.slices.proofs.Parts.{Copying}
use Rattle.slices.proofs.copy.Given as goal

abbrev pub invariant-loop-i : goal.invariant-loop-i
invariant-loop-i l = Copying l.source l.start l.size l.initial.target l.at l.target l.i
