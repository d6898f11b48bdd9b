-- `entries::key::number_of` meets its contract. The loop's invariant: the k-th name is the first that the key may be. Assumes nothing.
use Prim.Native.Nat.{◌-◌}
use Rattle.slices.specs.Parts.{part}
use Rattle.entries.proofs.Naming.{Finding}
use Rattle.entries.proofs.key.number_of.Given as goal

abbrev pub invariant-loop-k : goal.invariant-loop-k
invariant-loop-k l = Finding (part l.message l.start l.size) l.k

abbrev pub decreases-loop-k : goal.decreases-loop-k
decreases-loop-k l = 12 - l.k
