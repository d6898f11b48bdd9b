-- What is asked where a message is copied. Assumes nothing.
use Rattle.refusal.specs.Answer.{Answer, returned, refused}
use Rattle.framing.specs.Feed.{Reading, message, keep-alive}

-- a message was read
abbrev pub IsMessage : Answer Reading → Type 0
IsMessage (returned (message m used)) = Unit {0}
IsMessage (returned (keep-alive used)) = ⊥
IsMessage (refused number place) = ⊥
