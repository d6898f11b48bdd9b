-- A run of the bench trial that comes in blocks: document 01, "Bench trial program". Each block is cut into lines, and each line that ends in
-- it is handled, until the run ends. Assumes nothing.
use Rattle.std.specs.Prelude.{ℕ, ◌/◌, Bool, true, cond, List, [], ◌∷◌, ◌++◌, length, take}
use Rattle.slices.specs.Parts.{front}
use Rattle.lines.specs.Lines.{first_lines}
use Rattle.lines.specs.Blocks.{Cut, cut, missing_end}
use Rattle.session.specs.declared.phase.Session.{Session}
use Rattle.session.specs.Session.{fresh, next_of, written}
use Rattle.session.specs.Room.{enough}
use Rattle.run.specs.declared.Run.{Run}

-- ---- line by line
-- how far a run has come: its session, and whether it goes on
pub record Progress : Type 0 where
  pub session : Session
  pub goes_on : Bool

-- nothing has come yet
abbrev pub start : Progress
start = record { session = fresh; goes_on = true }

-- a run that has ended takes no line
abbrev pub after_line : Progress → List ℕ → Progress
after_line p line = cond p.goes_on (record { session = (next_of p.session line).session; goes_on = (next_of p.session line).goes_on }) p

abbrev pub sent_for : Progress → List ℕ → List ℕ
sent_for p line = cond p.goes_on (written (next_of p.session line)) []

-- one line after the other
unfoldable pub after_lines : Progress → List (List ℕ) → Progress
after_lines p [] = p
after_lines p (line ∷ lines) = after_lines (after_line p line) lines

unfoldable pub sent_for_lines : Progress → List (List ℕ) → List ℕ
sent_for_lines p [] = []
sent_for_lines p (line ∷ lines) = sent_for p line ++ sent_for_lines (after_line p line) lines

-- ---- block by block
-- what a block gives: how far the run has come, what is held of the line that has begun, and what is written
pub record Step : Type 0 where
  pub progress : Progress
  pub begun : List ℕ
  pub output : List ℕ

abbrev pub step_of : Progress → Cut → Step
step_of p c = record { progress = after_lines p c.ended; begun = c.begun; output = sent_for_lines p c.ended }

-- a block, with what is held of the line that has begun before it; no more than `most` characters of a line are held
abbrev pub block : ℕ → Progress → List ℕ → List ℕ → Step
block most p begun s = step_of p (cut most begun s)

-- ---- a block on what the code keeps
abbrev pub progress_of : Run → Progress
progress_of r = record { session = r.session; goes_on = r.goes_on }

-- the line that has begun stands in front of the memory in which lines are held
abbrev pub cut_in : List ℕ → Run → List ℕ → Cut
cut_in held r s = cut (length held) (take r.begun held) s

abbrev pub step_in : List ℕ → Run → List ℕ → Step
step_in held r s = step_of (progress_of r) (cut_in held r s)

-- lines that are held one after the other, each in front: what they leave of the memory
unfoldable pub held_after : List ℕ → List (List ℕ) → List ℕ
held_after held [] = held
held_after held (line ∷ lines) = held_after (front line held) lines

abbrev pub leaves : Cut → List ℕ → List ℕ
leaves c held = front c.begun (held_after held c.ended)

-- as much of a block as is sure to have room for what it sends: so many lines, each of which sends at most 4,400 characters
abbrev pub portion : ℕ → List ℕ → List ℕ
portion room s = first_lines (room / enough) s

-- the end of the input, where the last line lacks its end
abbrev pub last_in : List ℕ → Run → List ℕ
last_in held r = missing_end (take r.begun held)
