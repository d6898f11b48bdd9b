-- `entries::find` meets its contract. The loop's invariant: with the entries that are left, what is noted is what the whole walk notes, and
-- there is room for 13. Assumes nothing.
use Rattle.entries.proofs.Walking.{Noting}
use Rattle.entries.proofs.find.Given as goal

abbrev pub invariant-loop-i : goal.invariant-loop-i
invariant-loop-i l = Noting l.message l.entries.count l.entries.first l.i l.at l.found
