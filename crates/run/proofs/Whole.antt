-- The theorem `whole`: however the input is cut into blocks, what is written is what the program means. Assumes nothing.
use mathlib.Core.Path.{◌≡◌, refl, sym, ap, ◌∙◌}
use mathlib.Core.Logic.{⊎_elim}
use mathlib.Core.Bool.{Bool, true, false, cond}
use mathlib.Core.List.{List, [], ◌∷◌, ◌++◌, map}
use Prim.Native.Nat.{ℕ, ◌≤◌, ◌<◌}
use native.Mathlib.Omega.{arith}
use lib.ListN.{length, take}
use lib.Seq.{take_all, length-take-le}
use borrow.Author.Tests.{lt-leb}
use Rattle.slices.proofs.Tests.{lt-or-ge}
use Rattle.bolt.specs.Limits.{most_bytes}
use Rattle.hex_lines.specs.Hex.{is_line}
use Rattle.lines.specs.Lines.{lines_of}
use Rattle.lines.specs.Blocks.{cut, lines_in}
use Rattle.lines.proofs.Blocks.{cutting}
use Rattle.session.specs.declared.phase.Phase.{Phase}
use Rattle.session.specs.declared.phase.Phase.TheVariants.{Awaiting, Open}
use Rattle.record.specs.declared.record.Connection.{Connection}
use Rattle.session.specs.Receiving.{handshake_in, Brought, brought_in}
use Rattle.session.specs.declared.phase.Session.{Session}
use Rattle.session.specs.Session.{Next, replying, answering, next_of, in_phase, written, run_of, fresh}
use Rattle.run.specs.Run.{Progress, start, after_line, sent_for, after_lines, sent_for_lines}
use Rattle.run.specs.Whole.{blocks, Claim}
use Rattle.run.proofs.Feeding.{sent-append}

-- ---- a line that is too long is refused, however much of it is held
too_long : (line : List ℕ) → 40000 < length line → is_line line ≡ false
unfolding is_line
too_long line h = rw (lt-leb (length line) 40000 h) refl

module _ (a b : List ℕ) (e : is_line a ≡ false) (f : is_line b ≡ false) where
  same-greeting : handshake_in a ≡ handshake_in b
  unfolding handshake_in
  same-greeting = rw (e, f) refl

  same-frame : (room minor : ℕ) → brought_in room minor a ≡ brought_in room minor b
  unfolding brought_in
  same-frame room minor = rw (e, f) refl

  same_in : (p : Phase) (c : Connection) → in_phase p c a ≡ in_phase p c b
  same_in Awaiting c = rw same-greeting refl
  same_in (Open v) c = ap (λ (b : Brought). replying (Open v) [] (answering c b)) (same-frame most_bytes v.minor)

  same_next : (s : Session) → next_of s a ≡ next_of s b
  unfolding next_of
  same_next s = same_in s.phase s.connection

held-enough : (most : ℕ) → 40001 ≤ most → (s : Session) (line : List ℕ) → next_of s (take most line) ≡ next_of s line
held-enough most h s line =
    ⊎_elim (λ k. ap (next_of s) (take_all most line (omega (arith, k))))
    (λ k. same_next (take most line) line (too_long (take most line) (omega (arith, k, h, length-take-le most line k))) (too_long line (omega (arith, k, h))) s)
    (lt-or-ge (length line) most)

-- ---- so the lines as they are held give what the lines give
module _ (most : ℕ) (h : 40001 ≤ most) where
  sent-held : (p : Progress) (lines : List (List ℕ)) → sent_for_lines p (map (take most) lines) ≡ sent_for_lines p lines
  unfolding sent_for_lines
  sent-held p [] = refl
  sent-held p (line ∷ lines) =
      (λ i. sent_for-of (held-enough most h p.session line i) ++ sent_for_lines (after-of (held-enough most h p.session line i)) (map (take most) lines))
      ∙ ap (λ (o : List ℕ). sent_for p line ++ o) (sent-held (after_line p line) lines)
    where
      sent_for-of : Next → List ℕ
      sent_for-of n = cond p.goes_on (written n) []

      after-of : Next → Progress
      after-of n = cond p.goes_on (record { session = n.session; goes_on = n.goes_on }) p

-- ---- a run that has ended writes nothing
ended : (s : Session) (lines : List (List ℕ)) → sent_for_lines (record { session = s; goes_on = false }) lines ≡ []
unfolding sent_for_lines
ended s [] = refl
ended s (line ∷ lines) = ended s lines

-- the lines one after the other are a run
run_is : (s : Session) (lines : List (List ℕ)) → sent_for_lines (record { session = s; goes_on = true }) lines ≡ run_of s lines
unfolding sent_for_lines run_of
run_is s [] = refl
run_is s (line ∷ lines) = ap (λ (o : List ℕ). written (next_of s line) ++ o) (by (next_of s line).goes_on (run_is (next_of s line).session lines))
  where
    by : (b : Bool) → sent_for_lines (record { session = (next_of s line).session; goes_on = true }) lines ≡ run_of (next_of s line).session lines
        → sent_for_lines (record { session = (next_of s line).session; goes_on = b }) lines ≡ cond b (run_of (next_of s line).session lines) []
    by true e = e
    by false e = ended (next_of s line).session lines

-- ---- blocks are their lines
blocks-are : (most : ℕ) (p : Progress) (begun : List ℕ) (bs : List (List ℕ)) → blocks most p begun bs ≡ sent_for_lines p (lines_in most begun bs)
unfolding blocks lines_in
blocks-are most p begun [] = refl
blocks-are most p begun (b ∷ bs) =
    ap (λ (o : List ℕ). sent_for_lines p (cut most begun b).ended ++ o) (blocks-are most (after_lines p (cut most begun b).ended) (cut most begun b).begun bs)
    ∙ sym (sent-append p (cut most begun b).ended (lines_in most (cut most begun b).begun bs))

pub whole : Claim
whole most h input =
    blocks-are most start [] input
    ∙ ap (sent_for_lines start) (cutting most (omega (arith, h)) input)
    ∙ sent-held most h start (lines_of _)
    ∙ run_is fresh (lines_of _)
