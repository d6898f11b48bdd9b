-- `negotiation::negotiate` meets its contract: the choice is the one among the proposals left. Assumes nothing.
use mathlib.Core.Path.{◌≡◌}
use Prim.Native.Nat.{◌-◌, ◌+◌, ◌*◌}
use lib.ListN.{drop}
use Rattle.handshake.specs.Negotiation.{negotiated, chosen}
use Rattle.handshake.proofs.negotiation.negotiate.Given as goal

abbrev pub invariant-loop-k : goal.invariant-loop-k
invariant-loop-k l = negotiated l.input ≡ chosen (4 - l.k) (drop (4 + 4 * l.k) l.input)
