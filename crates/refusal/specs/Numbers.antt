-- The refusals by their numbers: document 01, "Refusal numbers", line by line, with 25, 26 and 27 of document 02 for 16. Assumes nothing.
use Rattle.std.specs.Prelude.{ℕ, ◌≡◌}
use Rattle.refusal.specs.declared.Refusal.{Refusal}
use Rattle.refusal.specs.declared.Refusal.TheVariants.{HandshakeTruncated, WrongPreamble, NoCommonVersion, FrameIncomplete, EmptyMessage, TooLong, ValueTruncated, ReservedMarker, TooDeep, InvalidUtf8, KeyNotString, DuplicateKey, TrailingBytes, UnknownRequest, WrongFieldCount, QueueFull, ConnectionDefunct, UnexpectedReport, RequestLimitReached, NoRoom, InvalidChunking, InvalidLine, InvalidRecord, MissingEntry, WrongKind, OutOfRange}

abbrev pub number_of : Refusal → ℕ
-- handshake short; preamble wrong; nothing in common
number_of HandshakeTruncated = 1
number_of WrongPreamble = 2
number_of NoCommonVersion = 3
-- frame incomplete; empty message; too long
number_of FrameIncomplete = 4
number_of EmptyMessage = 5
number_of TooLong = 6
-- value faults: bytes missing; reserved marker; too deep; UTF-8; key no String; key repeated; bytes left over
number_of ValueTruncated = 7
number_of ReservedMarker = 8
number_of TooDeep = 9
number_of InvalidUtf8 = 10
number_of KeyNotString = 11
number_of DuplicateKey = 12
number_of TrailingBytes = 13
-- not a known request structure; field count
number_of UnknownRequest = 14
number_of WrongFieldCount = 15
-- 32 waiting; DEFUNCT; no request in flight, or more-success for the wrong request; 4,294,967,295 accepted
number_of QueueFull = 17
number_of ConnectionDefunct = 18
number_of UnexpectedReport = 19
number_of RequestLimitReached = 20
-- no room; empty message or chunk size outside its range
number_of NoRoom = 21
number_of InvalidChunking = 22
-- a line that is too long, not hexadecimal, or has bytes after its frame
number_of InvalidLine = 23
-- record breaks a standing rule
number_of InvalidRecord = 24
-- a field or entry, document 02, request 1: required entry absent; kind wrong; number or word out of range
number_of MissingEntry = 25
number_of WrongKind = 26
number_of OutOfRange = 27

-- no two refusals have the same number: the number tells which it is
abbrev pub Distinct : Type 0
Distinct = (a b : Refusal) → number_of a ≡ number_of b → a ≡ b
