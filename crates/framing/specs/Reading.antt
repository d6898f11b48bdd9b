-- One frame read from a whole input: document 01, "Frames", and refusals 4, 5, 6, 21. Assumes nothing.
use Rattle.std.specs.Prelude.{ℕ, Bool, List, length}
use Rattle.slices.specs.Parts.{front}
use Rattle.refusal.specs.Answer.{Answer, returned, refused}
use Rattle.framing.specs.Feed.{Reading, message, keep-alive, Progress, done, waits, start, feed}
use Rattle.framing.specs.declared.reader.Frame.{Frame}
use Rattle.framing.specs.declared.reader.Frame.TheVariants.{Message, KeepAlive}

-- what still waits when the input is over is incomplete
abbrev pub closed : Progress → Answer Reading
closed (done a) = a
closed (waits w) = refused 4 0

-- the frame at the front of s, read into room for so many bytes
unfoldable pub frame_of : Bool → ℕ → List ℕ → Answer Reading
frame_of alive room s = closed (feed alive room start s)

-- how many bytes a reading takes
abbrev pub used : Reading → ℕ
used (message m n) = n
used (keep-alive n) = n

-- what a caller is told: a message's length and the bytes consumed, or a keep-alive's bytes consumed
pub data Told : Type 0 where
  message-of : ℕ → ℕ → Told
  keep-alive-of : ℕ → Told

abbrev pub telling : Answer Reading → Answer Told
telling (returned (message m used)) = returned (message-of (length m) used)
telling (returned (keep-alive used)) = returned (keep-alive-of used)
telling (refused number place) = refused number place

-- the code's frame in these terms
abbrev pub told_frame : Frame → Told
told_frame (Message size used) = message-of size used
told_frame KeepAlive = keep-alive-of 2

-- what a reading leaves in the lent buffer: the message in front, its rest unchanged
abbrev pub leaves : Reading → List ℕ → List ℕ
leaves (message m used) d = front m d
leaves (keep-alive used) d = d
