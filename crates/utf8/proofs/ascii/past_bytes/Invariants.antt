-- `utf8::ascii::past_bytes` meets its contract. The loop's invariant: i bytes of the part are ASCII. Assumes nothing.
use Prim.Native.Nat.{◌≤◌}
use Rattle.slices.specs.Parts.{part}
use Rattle.utf8.specs.Private.Ascii.{ascii_run}
use Rattle.utf8.proofs.ascii.past_bytes.Given as goal

abbrev pub invariant-loop-i : goal.invariant-loop-i
invariant-loop-i l = l.i ≤ ascii_run (part l.bytes l.start l.count)
