-- The number tells the refusal. Assumes nothing.
use mathlib.Core.Path.{◌≡◌, refl, sym, ap, ◌∙◌}
use mathlib.Core.Bool.{cond}
use mathlib.Core.List.{List, [], ◌∷◌}
use Prim.Native.Nat.{ℕ, ◌-◌}
use lib.Dec.{ltb}
use lib.ListN.{get_or}
use Rattle.refusal.specs.Numbers.{number_of, Distinct}
use Rattle.refusal.specs.declared.Refusal.{Refusal}
use Rattle.refusal.specs.declared.Refusal.TheVariants.{HandshakeTruncated, WrongPreamble, NoCommonVersion, FrameIncomplete, EmptyMessage, TooLong, ValueTruncated, ReservedMarker, TooDeep, InvalidUtf8, KeyNotString, DuplicateKey, TrailingBytes, UnknownRequest, WrongFieldCount, QueueFull, ConnectionDefunct, UnexpectedReport, RequestLimitReached, NoRoom, InvalidChunking, InvalidLine, InvalidRecord, MissingEntry, WrongKind, OutOfRange}

-- the refusals in the order of their numbers: 16 is none
refusals : List Refusal
refusals = HandshakeTruncated ∷ WrongPreamble ∷ NoCommonVersion ∷ FrameIncomplete ∷ EmptyMessage ∷ TooLong ∷ ValueTruncated ∷ ReservedMarker ∷ TooDeep ∷ InvalidUtf8 ∷ KeyNotString ∷ DuplicateKey ∷ TrailingBytes ∷ UnknownRequest ∷ WrongFieldCount ∷ QueueFull ∷ ConnectionDefunct ∷ UnexpectedReport ∷ RequestLimitReached ∷ NoRoom ∷ InvalidChunking ∷ InvalidLine ∷ InvalidRecord ∷ MissingEntry ∷ WrongKind ∷ OutOfRange ∷ []

numbered : ℕ → Refusal
numbered n = get_or refusals (cond (ltb n 16) (n - 1) (n - 2)) InvalidRecord

back : (r : Refusal) → numbered (number_of r) ≡ r
unfolding numbered refusals
back HandshakeTruncated = refl
back WrongPreamble = refl
back NoCommonVersion = refl
back FrameIncomplete = refl
back EmptyMessage = refl
back TooLong = refl
back ValueTruncated = refl
back ReservedMarker = refl
back TooDeep = refl
back InvalidUtf8 = refl
back KeyNotString = refl
back DuplicateKey = refl
back TrailingBytes = refl
back UnknownRequest = refl
back WrongFieldCount = refl
back QueueFull = refl
back ConnectionDefunct = refl
back UnexpectedReport = refl
back RequestLimitReached = refl
back NoRoom = refl
back InvalidChunking = refl
back InvalidLine = refl
back InvalidRecord = refl
back MissingEntry = refl
back WrongKind = refl
back OutOfRange = refl

pub distinct : Distinct
distinct a b e = sym (back a) ∙ ap numbered e ∙ back b
