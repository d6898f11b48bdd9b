-- One line of a block: what it gives whether or not it ends. Assumes nothing.
use mathlib.Core.Path.{◌≡◌, refl, sym, ap, ◌∙◌}
use mathlib.Core.Bool.{Bool, true, false, false≢true, cond}
use mathlib.Core.List.{List, [], ◌++◌, append-nil}
use Prim.Native.Nat.{ℕ, ◌≤◌}
use native.Mathlib.Omega.{arith}
use Rattle.std.specs.Prelude.{Result, Ok, Err}
use Rattle.std.specs.Result.{is_ok}
use lib.ListN.{length, take, drop, length-take, length-drop, length-append}
use lib.Seq.{take-append_seam}
use Rattle.slices.specs.Parts.{front}
use Rattle.refusal.specs.Answer.{Answer, returned, refused, left, told, mapped}
use Rattle.refusal.specs.declared.Refusal.{Refusal}
use Rattle.lines.specs.Lines.{first_line, has_end, first_lines}
use Rattle.lines.specs.Blocks.{Cut, cut, held_of}
use Rattle.lines.proofs.Blocks.{first_cut, cut-first}
use Rattle.session.specs.declared.phase.Session.{Session}
use Rattle.session.specs.declared.line.Handled.{Handled}
use Rattle.session.specs.Session.{next_of, written, handling, Told, telling, told_handled, going_on, putting}
use Rattle.session.specs.Room.{enough}
use Rattle.session.proofs.Room.{room}
use Rattle.run.specs.Run.{Progress, after_line, sent_for, after_lines, sent_for_lines, step_of, held_after, leaves}

-- ---- a line that is handled
-- what a line gives, in the order in which `handle_line` ensures it
abbrev pub Handles : Progress → List ℕ → List ℕ → Progress → ℕ → List ℕ → Type 0
Handles p line out p' n out' = (p' ≡ after_line p line) × ((n ≡ length (sent_for p line)) × (out' ≡ front (sent_for p line) out))

-- a run that has ended takes none
pub passed_over : (s : Session) (g : Bool) (line out : List ℕ) → g ≡ false → Handles (record { session = s; goes_on = g }) line out (record { session = s; goes_on = g }) 0 out
passed_over s g line out e = rw e (refl, (refl, refl))

-- what the handler tells, where it tells anything
abbrev told_of : Told → Answer Told → Told
told_of t (returned u) = u
told_of t (refused number place) = t

abbrev is-told : Answer Told → Bool
is-told (returned u) = true
is-told (refused number place) = false

module _ (s : Session) (g : Bool) (line out : List ℕ) (goes : g ≡ true) (size : ℕ) (h : enough ≤ size) where
  -- there is room
  fits : handling size s line ≡ returned (next_of s line)
  fits = (room s line).taken size h

  pub handles : (t : Told) (s' : Session) (g' : Bool) (out' : List ℕ) → g' ≡ t.goes_on → returned t ≡ telling (handling size s line) → s' ≡ left going_on (handling size s line) s
      → out' ≡ left putting (handling size s line) out
      → Handles (record { session = s; goes_on = g }) line out (record { session = s'; goes_on = g' }) t.characters out'
  handles t s' g' out' q e f k =
      let e' : returned t ≡ telling (returned (next_of s line)) = e ∙ ap telling fits in
      rw goes (
        (λ i. record { session = (f ∙ ap (λ a. left going_on a s) fits) i; goes_on = (q ∙ ap (λ a. (told_of t a).goes_on) e') i }),
        (ap (λ a. (told_of t a).characters) e', k ∙ ap (λ a. left putting a out) fits),
      )

  pub not-refused : (r : Result Handled Refusal) → mapped told_handled (told r) ≡ telling (handling size s line) → is_ok r ≡ true
  not-refused (Ok x) e = refl
  not-refused (Err why) e = absurd (false≢true (ap is-told (e ∙ ap telling fits)))

-- there is always room
pub line-short : (p : Progress) (line : List ℕ) → length (sent_for p line) ≤ enough
line-short p line = by p.goes_on
  where
    by : (b : Bool) → length (cond b (written (next_of p.session line)) []) ≤ enough
    by true = (room p.session line).most
    by false = omega arith

-- ---- the first line of a block
-- what a block gives, in the order in which `feed_line` and `feed` ensure it
abbrev pub Gives : Progress → Cut → ℕ → List ℕ → List ℕ → Progress → ℕ → ℕ → ℕ → List ℕ → List ℕ → Type 0
Gives p c n held out p' begun taken size held' out' =
    (p' ≡ (step_of p c).progress)
    × ((begun ≡ length c.begun)
    × ((taken ≡ n)
    × ((size ≡ length (step_of p c).output)
    × ((held' ≡ leaves c held)
    × (out' ≡ front (step_of p c).output out)))))

module _ (p : Progress) (held : List ℕ) (begun : ℕ) (block out : List ℕ) where
  abbrev line : List ℕ
  line = held_of (length held) (take begun held) block

  first-cut : {b : Bool} → b ≡ has_end block → cut (length held) (take begun held) (first_lines 1 block) ≡ first_cut b line
  first-cut e = cut-first (length held) (take begun held) block (omega (arith, length-take begun held)) ∙ ap (λ (b : Bool). first_cut b line) (sym e)

  abbrev c : Cut
  c = cut (length held) (take begun held) (first_lines 1 block)

  module _ {size taken : ℕ} {held' : List ℕ} (t : taken ≡ length (first_lines 1 block)) (l : size ≡ length line) (e : held' ≡ front line held) where
    -- it goes on behind the block
    pub begins : {b : Bool} → b ≡ false → b ≡ has_end block → Gives p c (length (first_lines 1 block)) held out p size taken 0 held' out
    unfolding after_lines sent_for_lines held_after
    begins d k = rw (first-cut (sym d ∙ k)) (refl, (l, (t, (refl, (e, refl)))))

    -- the line lies inside
    pub line-inside : size ≤ length held'
    line-inside = omega (arith, l, length-take (length held) (take begun held ++ first_line block), ap length e, length-append line (drop (length line) held), length-drop (length line) held)

    -- it is what was held
    line-held : take size held' ≡ line
    line-held = (λ i. take (l i) (e i)) ∙ take-append_seam line _

    -- it ends
    pub ends : {b : Bool} {p' : Progress} {n : ℕ} {out' : List ℕ} → b ≡ true → b ≡ has_end block → Handles p (take size held') out p' n out'
        → Gives p c (length (first_lines 1 block)) held out p' 0 taken n held' out'
    unfolding after_lines sent_for_lines held_after
    ends d k w =
        let w' = rw line-held at w in
        rw (first-cut (sym d ∙ k), append-nil (sent_for p line)) (w'.0, (refl, (t, (w'.1.0, (e, w'.1.1)))))
