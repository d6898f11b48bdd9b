-- `run::feed` meets its contract. Assumes nothing.
use Rattle.std.proofs.Common.{◌≡◌, ◌-◌, ◌/◌, ◌+◌, refl, arith, rules, length}
use Rattle.run.specs.Run.{progress_of, portion}
use Rattle.run.proofs.Feeding.{gives_all, lines_none, feeding-none, feeding-room, feeding-taken, feeding-written, feeding-on, feeding-done, feeding-out}
use Rattle.run.proofs.feed.Goals as goal

pub loop-init : goal.loop-init
loop-init c =
    let a = c.args in
    (refl, refl, feeding-none (progress_of a.run.now) a.held.now a.out.now a.block.now c.min-run.result (omega (arith, c.min-run.ensures)) (length a.out.now / 4400 - 0) (omega arith))

pub slice_bounds-feed_line-count-in-loop : goal.slice_bounds-feed_line-count-in-loop
slice_bounds-feed_line-count-in-loop c = let l = c.loop in let w = l.invariant.2 in omega (arith, w.room)

pub feed_line-next-requires : goal.feed_line-next-requires
feed_line-next-requires c = let l = c.loop in feeding-room (progress_of l.run) l.run.begun l.taken l.written _ l.held l.out l.invariant.2 (omega arith)

pub overflow_add-taken : goal.overflow_add-taken
overflow_add-taken c =
    let l = c.loop in
    omega (arith, feeding-taken (progress_of l.run) l.run.begun l.taken l.written _ l.held l.out l.invariant.2 c.feed_line-next.ensures.taken)

pub overflow_add-written : goal.overflow_add-written
overflow_add-written c =
    let l = c.loop in
    omega (arith, feeding-written (progress_of l.run) l.run.begun l.taken l.written _ l.held l.out l.invariant.2 (omega arith) c.feed_line-next.ensures.written)

pub loop-preserved : goal.loop-preserved
loop-preserved c =
    let l = c.loop in
    let e = c.feed_line-next.ensures in
    let h : length c.feed_line-next.new.held ≡ length l.held = search rules in
    (search rules, search rules, feeding-on (progress_of l.run) l.run.begun l.taken l.written _ l.held l.out l.invariant.2 (length c.args.out.now / 4400 - (l.counter + 1)) (omega arith) (e.progress, (e.begun, (e.taken, (e.written, (e.held, e.filled))))) h)

pub returns-then-block-taken : goal.returns-then-block-taken
returns-then-block-taken c =
    let a = c.args in
    let l = c.loop in
    let both = gives_all (progress_of a.run.now) a.held.now a.run.now.begun (portion (length a.out.now) a.block.now) a.out.now c.min-run.ensures
    (feeding-done (progress_of l.run) l.run.begun l.taken l.written _ l.held l.out l.invariant.2 (feeding-out (progress_of l.run) l.run.begun l.taken l.written _ l.held l.out l.invariant.2 c.if-block-taken.true)) in
    record { progress = both.0; begun = both.1.0; taken = both.1.1.0; written = both.1.1.1.0; held = both.1.1.1.1.0; filled = both.1.1.1.1.1 }

pub returns-after-loop : goal.returns-after-loop
returns-after-loop c =
    let a = c.args in
    let l = c.loop in
    let both = gives_all (progress_of a.run.now) a.held.now a.run.now.begun (portion (length a.out.now) a.block.now) a.out.now c.min-run.ensures
    (feeding-done (progress_of l.run) l.run.begun l.taken l.written _ l.held l.out l.invariant.2 (lines_none (length a.out.now / 4400 - l.counter) _ (omega arith))) in
    record { progress = both.0; begun = both.1.0; taken = both.1.1.0; written = both.1.1.1.0; held = both.1.1.1.1.0; filled = both.1.1.1.1.1 }
