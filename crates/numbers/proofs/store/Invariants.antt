-- The loop's invariant: what is left to store, stored now, gives what the whole store gives. Assumes nothing.
use mathlib.Core.Path.{◌≡◌}
use Prim.Native.Nat.{◌+◌, ◌-◌}
use lib.Seq.{sets}
use Rattle.numbers.specs.BigEndian.{bytes_of}
use Rattle.numbers.proofs.store.Given as goal

abbrev pub invariant-loop-i : goal.invariant-loop-i
invariant-loop-i l = sets l.bytes (l.at + l.i) (bytes_of (l.width - l.i) l.number) ≡ sets l.initial.bytes l.at (bytes_of l.width l.number)
