-- Reading undoes chunking: what is sent comes out as it was, and exactly its bytes are consumed. Assumes nothing.
use Rattle.std.specs.Prelude.{ℕ, zero, suc, Bool, true, ◌&&◌, List, [], ◌∷◌, ◌++◌, ◌≡◌, leb, length, drop}
use Rattle.refusal.specs.Answer.{Answer, returned, consumed}
use Rattle.framing.specs.Feed.{Reading, message, keep-alive}
use Rattle.bolt.specs.Limits.{most_bytes}
use Rattle.framing.specs.Reading.{frame_of, used}
use Rattle.framing.specs.Chunking.{chunked, end}

-- what a peer sends: a message in chunks of some size, or a keep-alive
pub data Sent : Type 0 where
  chunks : ℕ → List ℕ → Sent
  empty : Sent

-- a message of 1 to 16,384 bytes that the lent buffer holds, in chunks of 1 to 65,535; a keep-alive where the version has them
abbrev pub sendable : Bool → ℕ → Sent → Bool
sendable alive room (chunks c m) = leb 1 c && (leb c 65535 && (leb 1 (length m) && (leb (length m) most_bytes && leb (length m) room)))
sendable alive room empty = alive

-- its bytes, and what a reader makes of them
abbrev pub wire : Sent → List ℕ
wire (chunks c m) = chunked c m
wire empty = end

abbrev pub arrives : Sent → Reading
arrives (chunks c m) = message m (length (chunked c m))
arrives empty = keep-alive 2

-- for several, one after the other
abbrev pub all_sendable : Bool → ℕ → List Sent → Bool
all_sendable alive room [] = true
all_sendable alive room (x ∷ xs) = sendable alive room x && all_sendable alive room xs

unfoldable pub wire_all : List Sent → List ℕ
wire_all [] = []
wire_all (x ∷ xs) = wire x ++ wire_all xs

abbrev pub arrive_all : List Sent → List (Answer Reading)
arrive_all [] = []
arrive_all (x ∷ xs) = returned (arrives x) ∷ arrive_all xs

-- so many frames read from s, each from where the last one ended
unfoldable pub frames_of : Bool → ℕ → ℕ → List ℕ → List (Answer Reading)
frames_of alive room zero s = []
frames_of alive room (suc k) s = frame_of alive room s ∷ frames_of alive room k (drop (consumed used (frame_of alive room s)) s)

pub record RoundTrip (alive : Bool) (room : ℕ) : Type 0 where
  -- one message or keep-alive, whatever bytes come after it
  pub one : (x : Sent) (after : List ℕ) → sendable alive room x ≡ true → frame_of alive room (wire x ++ after) ≡ returned (arrives x)
  -- any number of them
  pub many : (xs : List Sent) (after : List ℕ) → all_sendable alive room xs ≡ true
      → frames_of alive room (length xs) (wire_all xs ++ after) ≡ arrive_all xs

-- with keep-alives and without them, into a lent buffer of any size
abbrev pub Claim : Type 0
Claim = (alive : Bool) (room : ℕ) → RoundTrip alive room
