-- `negotiation::preamble_agrees` meets its contract. Assumes nothing.
use mathlib.Core.Path.{◌∙◌}
use Rattle.handshake.specs.Negotiation.{preamble}
use Rattle.handshake.proofs.Choosing.{agrees-prefix}
use Rattle.handshake.proofs.negotiation.preamble_agrees.Goals as goal

pub returns : goal.returns
returns c = c.starts_with.ensures.value ∙ rw c.min.ensures (agrees-prefix preamble c.args.input.now)
