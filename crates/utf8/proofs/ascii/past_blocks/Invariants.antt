-- `utf8::ascii::past_blocks` meets its contract. The loop's invariant: the whole blocks from `at` on end where those from `start` on do.
-- Assumes nothing.
use mathlib.Core.Path.{◌≡◌}
use Prim.Native.Nat.{◌+◌, ◌-◌, ◌*◌, ◌/◌, ◌≤◌}
use lib.ListN.{length, drop}
use Rattle.utf8.specs.Private.Ascii.{ascii_run}
use Rattle.utf8.proofs.ascii.past_blocks.Given as goal

abbrev pub invariant-loop-at : goal.invariant-loop-at
invariant-loop-at l = (l.at ≤ length l.bytes) × (l.at + ascii_run (drop l.at l.bytes) / 64 * 64 ≡ l.start + ascii_run (drop l.start l.bytes) / 64 * 64)

abbrev pub decreases-loop-at : goal.decreases-loop-at
decreases-loop-at l = length l.bytes - l.at
