-- Why 33 turns are enough: they end only where the connection is idle or closed, or a call is refused. Proved in proofs/Idle.antt.
-- Assumes nothing.
use Rattle.std.specs.Prelude.{◌≡◌}
use Rattle.refusal.specs.Answer.{returned}
use Rattle.record.specs.declared.record.Connection.{Connection}
use Rattle.states.specs.declared.request.Request.{Request}
use Rattle.states.specs.Table as T
use Rattle.record.specs.Calls.{take_of}
use Rattle.claims.specs.Claim.{Sized}
use Rattle.serving.specs.Serving.{idle, served}

-- of any request that arrives at any record whose arrays have the lengths of their types: where the run goes on, no request is left whose
-- turn could come
pub record Idle (c : Connection) (r : Request) : Type 0 where
  pub nothing_left : Sized c → (served c r).end ≡ idle → (take_of (served c r).connection).answer ≡ returned T.idle

-- of any record and any request
abbrev pub Claim : Type 0
Claim = (c : Connection) (r : Request) → Idle c r
