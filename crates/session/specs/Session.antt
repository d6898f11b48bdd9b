-- The bench trial's session, line by line: document 01, "Bench trial program". Assumes nothing.
use Rattle.std.specs.Prelude.{ℕ, Bool, true, false, cond, List, [], ◌∷◌, ◌++◌, map, eqb, ltb, length}
use Rattle.slices.specs.Parts.{front}
use Rattle.refusal.specs.Answer.{Answer, returned, refused}
use Rattle.handshake.specs.Version.{bytes_of}
use Rattle.bolt.specs.Limits.{most_bytes}
use Rattle.framing.specs.Chunking.{chunk_of, end as last_chunk}
use Rattle.summaries.specs.Summaries.{pack_summary}
use Rattle.record.specs.declared.record.Connection.{Connection}
use Rattle.states.specs.declared.answers.Summary.{Summary}
use Rattle.record.specs.Record.{fresh as fresh_record}
use Rattle.session.specs.declared.phase.Phase.{Phase}
use Rattle.session.specs.declared.phase.Phase.TheVariants.{Awaiting, Open}
use Rattle.session.specs.declared.phase.Session.{Session}
use Rattle.session.specs.declared.line.Handled.{Handled}
use Rattle.session.specs.declared.line.Handled.TheVariants as H
use Rattle.session.specs.Text.{text}
use Rattle.serving.specs.Serving.{End, idle, closed, refusal, Serving, stopped, refusing, served}
use Rattle.session.specs.Receiving as Brought
use Rattle.session.specs.Receiving.{handshake_in, brought_in}

-- nothing has come yet
abbrev pub fresh : Session
fresh = record { phase = Awaiting; connection = fresh_record }

-- what one more line gives: the lines written, each by its bytes; whether the run goes on; and the session to go on with
pub record Next : Type 0 where
  pub lines : List (List ℕ)
  pub goes_on : Bool
  pub session : Session

-- "a summary in one chunk"
abbrev pub summary_line : Summary → List ℕ
summary_line s = chunk_of (pack_summary s) ++ last_chunk

-- "on a refusal, its number .. and the run ends, as on closing"
abbrev pub end_lines : End → List (List ℕ)
end_lines idle = []
end_lines closed = []
end_lines (refusal number) = (number ∷ []) ∷ []

abbrev pub is_idle : End → Bool
is_idle idle = true
is_idle closed = false
is_idle (refusal number) = false

-- what the handshake sends, then the summaries, then the refusal
unfoldable pub replying : Phase → List (List ℕ) → Serving → Next
replying phase opening s = record {
  lines = opening ++ (map summary_line s.summaries ++ end_lines s.end);
  goes_on = is_idle s.end;
  session = record { phase = phase; connection = s.connection };
}

-- "(for 3, the four zeros first)"
abbrev pub zeros : ℕ → List (List ℕ)
zeros number = cond (eqb number 3) ((0 ∷ 0 ∷ 0 ∷ 0 ∷ []) ∷ []) []

-- the handshake: the version agreed on is sent
abbrev pub greeting : Connection → Answer ℕ → Next
greeting c (returned minor) = replying (Open (record { minor = minor })) (bytes_of minor ∷ []) (stopped idle c)
greeting c (refused number place) = replying Awaiting (zeros number) (refusing number c)

-- a frame: a keep-alive is answered by nothing
abbrev pub answering : Connection → Brought.Brought → Serving
answering c Brought.nothing = stopped idle c
answering c (Brought.request r) = served c r
answering c (Brought.refusal number) = refusing number c

-- the handshake first, then one frame a line
abbrev pub in_phase : Phase → Connection → List ℕ → Next
in_phase Awaiting c line = greeting c (handshake_in line)
in_phase (Open v) c line = replying (Open v) [] (answering c (brought_in most_bytes v.minor line))

unfoldable pub next_of : Session → List ℕ → Next
next_of s line = in_phase s.phase s.connection line

-- what is written of it
abbrev pub written : Next → List ℕ
written n = text n.lines

-- a whole run: each line gets the session as the one before left it, until the run ends
unfoldable pub run_of : Session → List (List ℕ) → List ℕ
run_of s [] = []
run_of s (line ∷ lines) = written (next_of s line) ++ cond (next_of s line).goes_on (run_of (next_of s line).session lines) []

-- one more line, with room for so many characters: "no room .. exactly if the whole output is longer than the buffer"
unfoldable pub handling : ℕ → Session → List ℕ → Answer Next
handling room s line = cond (ltb room (length (written (next_of s line)))) (refused 21 0) (returned (next_of s line))

-- ---- what the code answers, in these terms
pub record Told : Type 0 where
  pub goes_on : Bool
  pub characters : ℕ

abbrev pub telling : Answer Next → Answer Told
telling (returned n) = returned (record { goes_on = n.goes_on; characters = length (written n) })
telling (refused number place) = refused number place

abbrev pub told_handled : Handled → Told
told_handled (H.GoesOn n) = record { goes_on = true; characters = n }
told_handled (H.Ended n) = record { goes_on = false; characters = n }

-- what it leaves of the session, and of what was lent
abbrev pub going_on : Next → Session → Session
going_on n s = n.session

abbrev pub putting : Next → List ℕ → List ℕ
putting n out = front (written n) out
