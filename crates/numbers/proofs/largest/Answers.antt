-- `numbers::largest` meets its contract. Assumes nothing.
use Rattle.numbers.proofs.BigEndian.{largest-is}
use Rattle.numbers.proofs.largest.Goals as goal

pub returns : goal.returns
returns c = largest-is c.args.width c.requires.0 c.requires.1
