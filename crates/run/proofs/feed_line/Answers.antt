-- `run::feed_line` meets its contract: by whether the line ends in the block. Assumes nothing.
use Rattle.std.proofs.Common.{◌∙◌}
use borrow.Author.Tests.{not-true, not-false}
use Rattle.run.specs.Run.{progress_of}
use Rattle.run.proofs.Lines.{begins, ends}
use Rattle.run.proofs.feed_line.Goals as goal

pub returns-then-not-line : goal.returns-then-not-line
returns-then-not-line c =
    let a = c.args in
    let l = c.take_line-line in
    let both = begins (progress_of a.run.now) a.held.now a.run.now.begun a.block.now a.out.now l.ensures.taken l.ensures.size l.ensures.filled (not-true l.result.ended c.if-not-line.true) l.ensures.ended in
    record { progress = both.0; begun = both.1.0; taken = both.1.1.0; written = both.1.1.1.0; held = both.1.1.1.1.0; filled = both.1.1.1.1.1 }

pub returns : goal.returns
returns c =
    let a = c.args in
    let l = c.take_line-line in
    let h = c.handle_line-written.ensures in
    let both = ends (progress_of a.run.now) a.held.now a.run.now.begun a.block.now a.out.now l.ensures.taken l.ensures.size l.ensures.filled (not-false l.result.ended c.if-not-line.false) l.ensures.ended (h.progress, (h.written, h.filled)) in
    record { progress = both.0; begun = h.begun ∙ both.1.0; taken = both.1.1.0; written = both.1.1.1.0; held = both.1.1.1.1.0; filled = both.1.1.1.1.1 }
