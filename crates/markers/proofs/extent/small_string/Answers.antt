-- `markers::extent::small_string` meets its contract. Assumes nothing.
use native.Mathlib.Omega.{arith}
use Rattle.markers.proofs.Extents.{string-short, string-there}
use Rattle.markers.proofs.extent.small_string.Goals as goal

pub returns-then-message-at : goal.returns-then-message-at
returns-then-message-at c = rw c.at.ensures (string-short c.args.message.now c.args.at c.args.size (omega (arith, c.if-message-at.true, c.requires)))

pub returns : goal.returns
returns c = string-there c.args.message.now c.args.at c.args.size (omega (arith, c.if-message-at.false, c.requires))
