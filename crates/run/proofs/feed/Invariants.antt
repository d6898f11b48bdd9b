-- `run::feed` meets its contract. The loop's invariant: what the block gives is what is left of it gives, behind what is written. Assumes nothing.
use Rattle.std.proofs.Common.{◌≡◌, ◌-◌, ◌/◌, length, take}
use Rattle.lines.specs.Lines.{first_lines}
use Rattle.lines.specs.Blocks.{cut}
use Rattle.run.specs.Run.{progress_of}
use Rattle.run.proofs.Feeding.{Feeding}
use Rattle.run.proofs.feed.Given as goal

abbrev pub invariant-loop : goal.invariant-loop
invariant-loop l =
    (length l.held ≡ length l.initial.held) × (length l.out ≡ length l.initial.out)
    × Feeding (progress_of l.initial.run) (cut (length l.initial.held) (take l.initial.run.begun l.initial.held) (first_lines (length l.initial.out / 4400) l.block)) (length (first_lines (length l.initial.out / 4400) l.block)) l.initial.held l.initial.out l.block (progress_of l.run) l.run.begun l.taken l.written (length l.initial.out / 4400 - l.counter) l.held l.out
