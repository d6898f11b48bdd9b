-- `trial::serve` is safe. Assumes nothing.
use Rattle.std.proofs.Common.{◌≡◌, length}
use Rattle.trial.proofs.serve.Given as goal

abbrev pub invariant-loop : goal.invariant-loop
invariant-loop l = (length l.block ≡ length l.initial.block) × (length l.held ≡ length l.initial.held) × (length l.out ≡ length l.initial.out)
