-- `trial::pass` meets its contract. Assumes nothing.
use Rattle.std.proofs.Common.{◌≡◌, ◌-◌, length, take, drop, refl, arith, rules}
use Rattle.run.specs.Run.{progress_of, cut_in, step_in, portion}
use Rattle.run.proofs.Passing.{passing-none, written-fits, passing-inside, passing-more, passing-next, passing-done}
use Rattle.trial.proofs.pass.Goals as goal

pub loop-from-init : goal.loop-from-init
loop-from-init c = let a = c.args in (refl, refl, passing-none (progress_of a.run.now) (length a.held.now) (take a.run.now.begun a.held.now) a.block.now)

pub slice_bounds-text-end : goal.slice_bounds-text-end
slice_bounds-text-end c =
    let a = c.args in
    let l = c.loop-from in
    let f = c.feed-fed in
    omega (arith, written-fits (step_in l.held l.run (portion (length l.out) (take (length a.block.now - l.from) (drop l.from a.block.now)))).output l.out f.new.out f.ensures.written f.ensures.filled)

pub overflow_add-from : goal.overflow_add-from
overflow_add-from c =
    let a = c.args in
    let l = c.loop-from in
    let e = c.feed-fed.ensures in
    omega (arith, passing-inside (progress_of a.run.now) (cut_in a.held.now a.run.now a.block.now) a.block.now (progress_of l.run) l.held l.run.begun l.from l.invariant.2 l.out (e.progress, (e.begun, (e.taken, (e.written, (e.held, e.filled))))))

pub loop-from-smaller : goal.loop-from-smaller
loop-from-smaller c =
    let a = c.args in
    let l = c.loop-from in
    let e = c.feed-fed.ensures in
    omega (arith, passing-inside (progress_of a.run.now) (cut_in a.held.now a.run.now a.block.now) a.block.now (progress_of l.run) l.held l.run.begun l.from l.invariant.2 l.out (e.progress, (e.begun, (e.taken, (e.written, (e.held, e.filled))))), passing-more (progress_of a.run.now) (cut_in a.held.now a.run.now a.block.now) a.block.now (progress_of l.run) l.held l.run.begun l.from l.invariant.2 l.out (e.progress, (e.begun, (e.taken, (e.written, (e.held, e.filled))))) (omega (arith, c.requires, l.invariant.1)) c.loop-from-test.true)

pub loop-from-preserved : goal.loop-from-preserved
loop-from-preserved c =
    let a = c.args in
    let l = c.loop-from in
    let f = c.feed-fed in
    let e = f.ensures in
    let h : length f.new.held ≡ length l.held = search rules in
    (search rules, search rules, passing-next (progress_of a.run.now) (cut_in a.held.now a.run.now a.block.now) a.block.now (progress_of l.run) l.held l.run.begun l.from l.invariant.2 l.out (e.progress, (e.begun, (e.taken, (e.written, (e.held, e.filled))))) h)

pub returns : goal.returns
returns c =
    let a = c.args in
    let l = c.loop-from in
    let both = passing-done (progress_of a.run.now) (cut_in a.held.now a.run.now a.block.now) a.block.now (progress_of l.run) l.held l.run.begun l.from l.invariant.2 c.loop-from-test.false in
    record { progress = both.0; begun = both.1; err = search rules }
