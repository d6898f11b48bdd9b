-- What a line brings, as the code answers it. Assumes nothing.
use Rattle.std.specs.Prelude.{Option, Some, None}
use Rattle.refusal.specs.Answer.{Answer, returned, refused}
use Rattle.states.specs.declared.request.Request.{Request}
use Rattle.session.specs.Receiving.{Brought, nothing, request, refusal}

-- a keep-alive brings no request
abbrev pub bringing : Answer (Option Request) → Brought
bringing (returned None) = nothing
bringing (returned (Some r)) = request r
bringing (refused number place) = refusal number
