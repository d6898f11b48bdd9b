-- `trial::serve` is safe. Assumes nothing.
use Rattle.std.proofs.Common.{length, arith}
use Rattle.run.specs.Run.{step_in, portion, last_in}
use Rattle.run.proofs.Passing.{written-fits}
use Rattle.trial.proofs.serve.Goals as goal

pub slice_bounds-text-end : goal.slice_bounds-text-end
slice_bounds-text-end c =
    let l = c.loop in
    let f = c.finish-last in
    omega (arith, written-fits (step_in l.held l.run (portion (length l.out) (last_in l.held l.run))).output l.out f.new.out f.ensures.written f.ensures.filled)
