-- What a line leads to, as the code answers it: how far it is written, and what is known of the rest. Assumes nothing.
use Rattle.std.specs.Prelude.{ℕ, List, ◌++◌, map, ◌≡◌, length}
use Rattle.std.proofs.lemmas.List.Edits.{sets}
use Rattle.slices.specs.Parts.{front}
use Rattle.record.specs.declared.record.Connection.{Connection}
use Rattle.serving.specs.Serving.{End, idle, closed, refusal, Serving, after_refusal, end_of}
use Rattle.session.specs.declared.phase.Session.{Session}
use Rattle.session.specs.declared.reply.Reply.{Reply}
use Rattle.session.specs.declared.line.Handled.{Handled}
use Rattle.session.specs.Text.{text}
use Rattle.session.specs.Session.{Next, summary_line, end_lines, is_idle, written, told_handled}

-- the lines of the summaries
abbrev pub sent : Serving → List ℕ
sent w = text (map summary_line w.summaries)

-- a refusal may close
abbrev pub leaving : End → Connection → Connection
leaving idle c = c
leaving closed c = c
leaving (refusal number) c = after_refusal number c

-- all of a serving but what a refusal leads to: the record, why it ended, and its summaries' lines in front
pub record Sends (w : Serving) (c : Connection) (r : Reply) (before out : List ℕ) : Type 0 where
  pub connection : leaving (end_of r.ending) c ≡ w.connection
  pub ending : end_of r.ending ≡ w.end
  pub ends : r.end ≡ length (sent w)
  pub filled : out ≡ sets before 0 (sent w)

-- all that a line gives but what a refusal leads to, with these lines in front
pub record Replies (n : Next) (r : Reply) (after : Session) (before out : List ℕ) : Type 0 where
  pub lines : List (List ℕ)
  pub next : n ≡ record {
    lines = lines ++ end_lines (end_of r.ending);
    goes_on = is_idle (end_of r.ending);
    session = record { phase = after.phase; connection = leaving (end_of r.ending) after.connection };
  }
  pub ends : r.end ≡ length (text lines)
  pub filled : out ≡ sets before 0 (text lines)

-- all that a line gives, its lines in front
pub record Responds (n : Next) (h : Handled) (after : Session) (before out : List ℕ) : Type 0 where
  pub answer : told_handled h ≡ record { goes_on = n.goes_on; characters = length (written n) }
  pub session : after ≡ n.session
  pub filled : out ≡ front (written n) before
