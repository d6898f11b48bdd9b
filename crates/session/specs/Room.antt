-- How much room is enough for any line: with 4,400 characters it is never refused with 21. Proved in proofs/Room.antt. Assumes nothing.
use Rattle.std.specs.Prelude.{List, ◌≡◌, ℕ, ◌≤◌, length}
use Rattle.refusal.specs.Answer.{returned}
use Rattle.session.specs.declared.phase.Session.{Session}
use Rattle.session.specs.Session.{next_of, written, handling}

abbrev pub enough : ℕ
enough = 4400

-- of any session and any line
pub record Room (s : Session) (line : List ℕ) : Type 0 where
  pub most : length (written (next_of s line)) ≤ enough
  pub taken : (room : ℕ) → enough ≤ room → handling room s line ≡ returned (next_of s line)

abbrev pub Claim : Type 0
Claim = (s : Session) (line : List ℕ) → Room s line
