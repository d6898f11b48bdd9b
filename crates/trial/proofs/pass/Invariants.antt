-- `trial::pass` meets its contract. The loop's invariant: what the block gives is what is left of it gives. Assumes nothing.
use Rattle.std.proofs.Common.{◌≡◌, ◌-◌, length, take}
use Rattle.run.specs.Run.{progress_of, cut_in}
use Rattle.run.proofs.Passing.{Passing}
use Rattle.trial.proofs.pass.Given as goal

abbrev pub invariant-loop-from : goal.invariant-loop-from
invariant-loop-from l =
    (length l.held ≡ length l.initial.held) × (length l.out ≡ length l.initial.out)
    × Passing (progress_of l.initial.run) (cut_in l.initial.held l.initial.run l.block) l.block (progress_of l.run) (length l.held) (take l.run.begun l.held) l.from

abbrev pub decreases-loop-from : goal.decreases-loop-from
decreases-loop-from l = length l.block - l.from
