-- `reader::scan` meets its contract. The invariants: how far the reading has come, at a header and in a run of chunks of one size.
-- Assumes nothing.
use Prim.Native.Nat.{◌-◌}
use lib.ListN.{length}
use Rattle.framing.proofs.Scanning.{AtHeader, InRun}
use Rattle.framing.proofs.reader.scan.Given as goal

abbrev pub invariant-loop-sum : goal.invariant-loop-sum
invariant-loop-sum l = InRun l.keep_alive l.room l.input l.initial.at l.size l.at l.sum

abbrev pub decreases-loop-sum : goal.decreases-loop-sum
decreases-loop-sum l = length l.input - l.at

abbrev pub invariant-loop-at : goal.invariant-loop-at
invariant-loop-at l = AtHeader l.keep_alive l.room l.input l.at l.sum

abbrev pub decreases-loop-at : goal.decreases-loop-at
decreases-loop-at l = length l.input - l.at
