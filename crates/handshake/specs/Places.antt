-- Every refusal of the handshake is at place 0 (document 01, "Values": "Refusals other than 7 to 16 give place 0"). Proved in
-- proofs/Choosing.antt. Assumes nothing.
use Rattle.std.specs.Prelude.{ℕ, List}
use Rattle.refusal.specs.Answer.{Placed}
use Rattle.handshake.specs.Negotiation.{negotiated}

-- of every input
abbrev pub Claim : Type 0
Claim = (s : List ℕ) → Placed (negotiated s)
