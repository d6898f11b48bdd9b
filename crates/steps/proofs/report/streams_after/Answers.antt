-- `steps::report::streams_after` meets its contract: success with more leaves the streams. Assumes nothing.
use Rattle.steps.proofs.Removing.{laid-own}
use Rattle.steps.proofs.report.streams_after.Goals as goal

pub returns-in-More : goal.returns-in-More
returns-in-More c = let a = c.args in rw c.in-More.is (laid-own a.streams.now a.opened.count c.requires.1.0 a.opened.next c.requires.0)
