-- A keep-alive leads to no call, changes nothing and is answered by nothing: document 01, "For a keep-alive the frame reader gives no message, so nothing
-- arrives". Proved in proofs/KeepAlive.antt. Assumes nothing.
use Rattle.std.specs.Prelude.{ℕ, true, List, [], ◌∷◌, ◌≡◌, length}
use Rattle.refusal.specs.Answer.{returned}
use Rattle.hex_lines.specs.Hex.{is_line, to_bytes}
use Rattle.handshake.specs.declared.version.Version.{Version}
use Rattle.handshake.specs.Version.{keeps_alive}
use Rattle.framing.specs.Feed.{keep-alive}
use Rattle.bolt.specs.Limits.{most_bytes}
use Rattle.framing.specs.Reading.{frame_of}
use Rattle.session.specs.declared.phase.Phase.TheVariants.{Open}
use Rattle.session.specs.Receiving.{nothing, brought_in}
use Rattle.session.specs.declared.phase.Session.{Session}
use Rattle.session.specs.Session.{Next, next_of}

-- nothing is written, and the run goes on with the same session
abbrev pub unmoved : Session → Next
unmoved s = record { lines = []; goes_on = true; session = s }

-- `0000`
abbrev pub empty : List ℕ
empty = 0x30 ∷ 0x30 ∷ 0x30 ∷ 0x30 ∷ []

-- of any session with any record, open in this version
pub record KeepAlive (s : Session) (v : Version) : Type 0 where
  -- a line that is a keep-alive and no more brings no request: no call is made
  pub no_call : s.phase ≡ Open v → (line : List ℕ) → is_line line ≡ true
      → frame_of (keeps_alive v.minor) most_bytes (to_bytes line) ≡ returned (keep-alive (length (to_bytes line))) → brought_in most_bytes v.minor line ≡ nothing
  -- so nothing is written, and the session stays as it is
  pub silent : s.phase ≡ Open v → (line : List ℕ) → is_line line ≡ true
      → frame_of (keeps_alive v.minor) most_bytes (to_bytes line) ≡ returned (keep-alive (length (to_bytes line))) → next_of s line ≡ unmoved s
  -- `0000` is one where the version has keep-alives
  pub zeros : s.phase ≡ Open v → keeps_alive v.minor ≡ true → next_of s empty ≡ unmoved s

abbrev pub Claim : Type 0
Claim = (s : Session) (v : Version) → KeepAlive s v
