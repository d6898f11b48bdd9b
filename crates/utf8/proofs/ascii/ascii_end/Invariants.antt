-- `utf8::ascii::ascii_end` meets its contract. The loop's invariant: `at` lies in the run, and the list has eight bytes. Assumes nothing.
use Prim.Native.Nat.{◌-◌, ◌≤◌}
use lib.ListN.{length}
use Rattle.utf8.proofs.Runs.{InRun}
use Rattle.utf8.proofs.ascii.ascii_end.Given as goal

abbrev pub invariant-loop-at : goal.invariant-loop-at
invariant-loop-at l = InRun l.bytes l.start l.at × (8 ≤ length l.bytes)

abbrev pub decreases-loop-at : goal.decreases-loop-at
decreases-loop-at l = length l.bytes - l.at
