-- The layers' answers as structs of numbers: the refusal's number, 0 for none, and its place; then what the result holds, or zeros.
-- Assumes nothing.
use Rattle.std.specs.Prelude.{ℕ, Option, Some, None}
use Rattle.refusal.specs.Answer.{Answer, returned, refused}
use Rattle.handshake.specs.Version.{bytes_of, proposed}
use Rattle.framing.specs.Reading.{Told, message-of, keep-alive-of}
use Rattle.meulhaton.specs.declared.wire.Agreement.{Agreement}
use Rattle.meulhaton.specs.declared.wire.FrameRead.{FrameRead}
use Rattle.meulhaton.specs.declared.wire.Output.{Output}

-- the minor version agreed on
abbrev pub agreement_of : Answer ℕ → Agreement
agreement_of (returned minor) = record { refusal = 0; minor = minor; place = 0 }
agreement_of (refused number place) = record { refusal = number; minor = 0; place = place }

-- a message's length and a frame's bytes consumed: 1 is a message, 2 a keep-alive
abbrev pub frame_answer : Answer Told → FrameRead
frame_answer (returned (message-of length used)) = record { refusal = 0; kind = 1; place = 0; length = length; consumed = used }
frame_answer (returned (keep-alive-of used)) = record { refusal = 0; kind = 2; place = 0; length = 0; consumed = used }
frame_answer (refused number place) = record { refusal = number; kind = 0; place = place; length = 0; consumed = 0 }

-- the offset past what a writer wrote
abbrev pub output_of : Answer ℕ → Output
output_of (returned end) = record { refusal = 0; place = 0; end = end }
output_of (refused number place) = record { refusal = number; place = place; end = 0 }

-- what is named, if anything is
abbrev pub named : {A B : Type 0} → Option A → (A → Answer B) → Answer B
named (Some a) f = f a
named None f = refused 24 0

-- a call in the version of a minor number: 24 where the number names no known version
abbrev pub in_version : {A : Type 0} → ℕ → (ℕ → Answer A) → Answer A
in_version minor f = named (proposed (bytes_of minor)) f
