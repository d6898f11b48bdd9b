-- What a line brings: document 01, "Bench trial program": "Checked in order: length and digits, handshake or frame, bytes after it (23),
-- request". Assumes nothing.
use Rattle.std.specs.Prelude.{ℕ, cond, List, ltb, length}
use Rattle.refusal.specs.Answer.{Answer, returned, refused}
use Rattle.hex_lines.specs.Hex.{is_line, to_bytes}
use Rattle.handshake.specs.Version.{keeps_alive}
use Rattle.handshake.specs.Negotiation.{negotiated}
use Rattle.framing.specs.Feed.{Reading, message, keep-alive}
use Rattle.framing.specs.Reading.{frame_of, used}
use Rattle.values.specs.Decode.{decode}
use Rattle.requests.specs.declared.request.Request.{Request}
use Rattle.requests.specs.Requests.{request_of}
use Rattle.summaries.specs.Arrivals.{arrival_of}
use Rattle.states.specs.declared.request.Request.{Request as Arriving}

-- ---- the handshake
-- the minor version agreed on by a line of twenty bytes
abbrev pub alone : ℕ → Answer ℕ → Answer ℕ
alone size (returned minor) = cond (ltb 20 size) (refused 23 0) (returned minor)
alone size (refused number place) = refused number place

unfoldable pub handshake_in : List ℕ → Answer ℕ
handshake_in line = cond (is_line line) (alone (length (to_bytes line)) (negotiated (to_bytes line))) (refused 23 0)

-- ---- a frame
-- a request, or a refusal with its number; a keep-alive brings nothing
pub data Brought : Type 0 where
  nothing : Brought
  request : Arriving → Brought
  refusal : ℕ → Brought

-- a request as it arrives at the connection
abbrev pub arriving : Answer Request → Brought
arriving (returned r) = request (arrival_of r)
arriving (refused number place) = refusal number

abbrev pub in_frame : ℕ → Reading → Brought
in_frame minor (message m size) = arriving (request_of minor (decode m))
in_frame minor (keep-alive size) = nothing

-- a frame, alone among so many bytes
abbrev pub framed : ℕ → ℕ → Answer Reading → Brought
framed minor size (returned r) = cond (ltb (used r) size) (refusal 23) (in_frame minor r)
framed minor size (refused number place) = refusal number

-- of a line in Bolt 4.minor, its message read into room for so many bytes
unfoldable pub brought_in : ℕ → ℕ → List ℕ → Brought
brought_in room minor line =
    cond (is_line line) (framed minor (length (to_bytes line)) (frame_of (keeps_alive minor) room (to_bytes line))) (refusal 23)
