-- `steps::streams::push` meets its contract: the number is stored behind the others. Assumes nothing.
use Rattle.steps.proofs.Removing.{pushed}
use Rattle.steps.proofs.streams.push.Goals as goal

pub returns : goal.returns
returns c = pushed c.args.streams.now c.args.count c.requires.1 c.args.number c.requires.0
