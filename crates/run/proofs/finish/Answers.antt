-- `run::finish` meets its contract: by whether a line has begun. Assumes nothing.
use Rattle.run.specs.Run.{progress_of}
use Rattle.run.proofs.Feeding.{finished, finishes}
use Rattle.run.proofs.finish.Goals as goal

pub returns-then-min-eq0 : goal.returns-then-min-eq0
returns-then-min-eq0 c =
    let a = c.args in
    let both = finished (progress_of a.run.now) a.held.now a.run.now.begun a.out.now c.min.ensures c.if-min-eq0.true (c.feed.ensures.progress, (c.feed.ensures.begun, (c.feed.ensures.taken, (c.feed.ensures.written, (c.feed.ensures.held, c.feed.ensures.filled))))) in
    record { progress = both.0; begun = both.1.0; taken = both.1.1.0; written = both.1.1.1.0; held = both.1.1.1.1.0; filled = both.1.1.1.1.1 }

pub returns : goal.returns
returns c =
    let a = c.args in
    let both = finishes (progress_of a.run.now) a.held.now a.run.now.begun a.out.now c.min.ensures c.if-min-eq0.false (c.feed-2.ensures.progress, (c.feed-2.ensures.begun, (c.feed-2.ensures.taken, (c.feed-2.ensures.written, (c.feed-2.ensures.held, c.feed-2.ensures.filled))))) in
    record { progress = both.0; begun = both.1.0; taken = both.1.1.0; written = both.1.1.1.0; held = both.1.1.1.1.0; filled = both.1.1.1.1.1 }
