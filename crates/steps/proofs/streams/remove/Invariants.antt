-- `steps::streams::remove` meets its contract. The loop's invariant: of the first `i` numbers, those that stay stand at the front, and the
-- others stand where they stood. Assumes nothing.
use Rattle.steps.proofs.Removing.{Kept}
use Rattle.steps.proofs.streams.remove.Given as goal

abbrev pub invariant-loop-i : goal.invariant-loop-i
invariant-loop-i l = Kept l.number l.initial.streams l.streams l.left l.i
