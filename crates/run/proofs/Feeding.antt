-- The lines of a block, one after the other: the first gives what `feed_line` gives, and the rest what is left. Assumes nothing.
use mathlib.Core.Path.{◌≡◌, refl, sym, ap, subst, ◌∙◌}
use mathlib.Core.Logic.{⊎_elim}
use mathlib.Core.Bool.{Bool, true, false}
use mathlib.Core.List.{List, [], ◌∷◌, ◌++◌, append_assoc, append-nil}
use Prim.Native.Nat.{ℕ, zero, suc, ◌+◌, ◌-◌, ◌*◌, ◌/◌, ◌≤◌, ◌<◌, min}
use native.Mathlib.Omega.{arith}
use lib.ListN.{length, take, drop, length-take, length-drop, length-append, drop_of_length-le}
use lib.Seq.{drop-drop, drop-append_seam, take-append_seam, take_all, take-length, drop-length, length-take-le}
use Rattle.slices.specs.Parts.{front}
use Rattle.slices.proofs.Tests.{lt-or-ge}
use Rattle.slices.proofs.Pieces.{Put, put-none, put-done}
use Rattle.lines.specs.Lines.{has_end, first_lines}
use Rattle.lines.specs.Blocks.{Cut, cut, held_of, missing_end}
use Rattle.lines.proofs.Lines.{front-taken}
use Rattle.lines.proofs.Blocks.{joined, cut-append, cut-held, lines_next, lines-inside, lines-all, first_cut, cut-first}
use Rattle.session.specs.Room.{enough}
use Rattle.run.specs.Run.{Progress, after_line, sent_for, after_lines, sent_for_lines, held_after, leaves, portion}
use Rattle.run.proofs.Lines.{line-short, Gives}

-- ---- lines behind lines
pub after-append : (p : Progress) (l m : List (List ℕ)) → after_lines p (l ++ m) ≡ after_lines (after_lines p l) m
unfolding after_lines
after-append p [] m = refl
after-append p (x ∷ l) m = after-append (after_line p x) l m

pub sent-append : (p : Progress) (l m : List (List ℕ)) → sent_for_lines p (l ++ m) ≡ sent_for_lines p l ++ sent_for_lines (after_lines p l) m
unfolding after_lines sent_for_lines
sent-append p [] m = refl
sent-append p (x ∷ l) m = ap (λ (o : List ℕ). sent_for p x ++ o) (sent-append (after_line p x) l m) ∙ sym (append_assoc (sent_for p x) (sent_for_lines (after_line p x) l) (sent_for_lines (after_lines (after_line p x) l) m))

-- ---- the first line of a block, and the rest
pub lines_none : (n : ℕ) (s : List ℕ) → n ≡ 0 → first_lines n s ≡ []
unfolding first_lines
lines_none n s e = ap (λ (m : ℕ). first_lines m s) e

none_left : (n : ℕ) → first_lines n [] ≡ []
unfolding first_lines
none_left zero = refl
none_left (suc n) = refl

module _ (most : ℕ) (b : List ℕ) (h : length b ≤ most) (s : List ℕ) where
  abbrev c₁ : Cut
  c₁ = cut most b (first_lines 1 s)

  abbrev rest : List ℕ
  rest = drop (length (first_lines 1 s)) s

  first-is : c₁ ≡ first_cut (has_end s) (held_of most b s)
  first-is = cut-first most b s h

  lines_cut : (n : ℕ) → cut most b (first_lines (suc n) s) ≡ joined c₁ (cut most c₁.begun (first_lines n rest))
  lines_cut n = ap (cut most b) (lines_next n s) ∙ cut-append most b (first_lines 1 s) (first_lines n rest)

  first_short : (p : Progress) → length (sent_for_lines p c₁.ended) ≤ enough
  unfolding sent_for_lines
  first_short p = rw first-is (by (has_end s))
    where
      by : (e : Bool) → length (sent_for_lines p (first_cut e (held_of most b s)).ended) ≤ enough
      by true = rw (append-nil (sent_for p (held_of most b s))) (line-short p (held_of most b s))
      by false = omega arith

  -- memory in which the line that has begun stands is left as it is
  held-again : (v d : List ℕ) → front v (front v d) ≡ front v d
  held-again v d = ap (v ++◌) (drop-append_seam v (drop (length v) d))

  leaves-joined : (n : ℕ) (held : List ℕ) → leaves (joined c₁ (cut most c₁.begun (first_lines n rest))) held ≡ leaves (cut most c₁.begun (first_lines n rest)) (leaves c₁ held)
  unfolding held_after cut
  leaves-joined n held = by (has_end s) refl
    where
      by : (e : Bool) → has_end s ≡ e → leaves (joined c₁ (cut most c₁.begun (first_lines n rest))) held ≡ leaves (cut most c₁.begun (first_lines n rest)) (leaves c₁ held)
      by true e = rw (first-is, e) refl
      by false e =
          let z : first_lines n rest ≡ [] = ap (first_lines n) (ap (λ (l : List ℕ). drop (length l) s) (lines-all s e) ∙ drop-length s) ∙ none_left n in
          rw z (rw (first-is, e) (sym (held-again (held_of most b s) held)))

-- what a block gives where as much of a line is held as can be
take_min : (n : ℕ) (l : List ℕ) → take (min n (length l)) l ≡ take n l
take_min n l =
    ⊎_elim (λ h. let e : min n (length l) ≡ n = omega (arith, h) in ap (λ (k : ℕ). take k l) e)
    (λ h. let e : min n (length l) ≡ length l = omega (arith, h) in ap (λ (k : ℕ). take k l) e ∙ take-length l ∙ sym (take_all n l h))
    (lt-or-ge n (length l))

pub gives_all : (p : Progress) (held : List ℕ) (begun : ℕ) {m : ℕ} (s out : List ℕ) {p' : Progress} {out' held' : List ℕ} {n b t w : ℕ} → m ≡ min begun (length held)
    → Gives p (cut (length held) (take m held) s) n held out p' b t w held' out' → Gives p (cut (length held) (take begun held) s) n held out p' b t w held' out'
gives_all p held begun s out e g = rw (ap (λ (k : ℕ). take k held) e ∙ take_min begun held) at g

-- ---- the loop
-- some lines of the block are taken: what it gives is what the rest gives, behind what is written
pub record Feeding (p₀ : Progress) (C : Cut) (N : ℕ) (held₀ out₀ block : List ℕ) (p : Progress) (begun taken written left : ℕ) (held out : List ℕ) : Type 0 where
  pub inside : taken ≤ length block
  pub begun-inside : begun ≤ length held
  pub room : written + left * enough ≤ length out₀
  pub takes : N ≡ taken + length (first_lines left (drop taken block))
  pub goes : after_lines p₀ C.ended ≡ after_lines p (cut (length held) (take begun held) (first_lines left (drop taken block))).ended
  pub holds : C.begun ≡ (cut (length held) (take begun held) (first_lines left (drop taken block))).begun
  pub keeps : leaves C held₀ ≡ leaves (cut (length held) (take begun held) (first_lines left (drop taken block))) held
  pub puts : Put (sent_for_lines p₀ C.ended) out₀ out written (sent_for_lines p (cut (length held) (take begun held) (first_lines left (drop taken block))).ended)

module _ (p : Progress) (held out block : List ℕ) (begun : ℕ) (inside : begun ≤ length held) where
  pub feeding-none : (left : ℕ) → left ≡ length out / enough
      → Feeding p (cut (length held) (take begun held) (first_lines (length out / enough) block)) (length (first_lines (length out / enough) block)) held out block p begun 0 0 left held out
  feeding-none left e = rw e (record {
    inside = omega arith;
    begun-inside = inside;
    room = omega arith;
    takes = omega arith;
    goes = refl;
    holds = refl;
    keeps = refl;
    puts = put-none (sent_for_lines p (cut (length held) (take begun held) (first_lines (length out / enough) block)).ended) out;
  })

-- a part that runs to the end is what is left
pub part-rest : (n : ℕ) (l : List ℕ) → take (length l - n) (drop n l) ≡ drop n l
part-rest n l = take_all (length l - n) (drop n l) (omega (arith, length-drop n l))

rest-of-rest : (n : ℕ) (l : List ℕ) → drop (length l - n) (drop n l) ≡ []
rest-of-rest n l = drop_of_length-le (drop n l) {i = length l - n} (omega (arith, length-drop n l))

module _ {p₀ : Progress} {C : Cut} {N : ℕ} {held₀ out₀ block : List ℕ} (p : Progress) (begun taken written left : ℕ) (held out : List ℕ)
    (w : Feeding p₀ C N held₀ out₀ block p begun taken written left held out) where
  done-length : length w.puts.done ≡ written
  done-length = w.puts.count

  out-length : length out ≡ length out₀
  out-length =
      omega (arith, w.room, w.puts.count, ap length w.puts.holds, length-append w.puts.done (drop (length w.puts.done) out₀), length-drop (length w.puts.done) out₀)

  -- there is room for one more line
  pub feeding-room : 0 < left → enough ≤ length (take (length out - written) (drop written out))
  feeding-room h = omega (arith, h, w.room, out-length, length-drop written out, length-take (length out - written) (drop written out))

  -- what it takes and writes lies inside
  pub feeding-taken : {t : ℕ} → t ≡ length (first_lines 1 (take (length block - taken) (drop taken block))) → taken + t ≤ length block
  feeding-taken e = omega (arith, w.inside, e, lines-inside 1 (take (length block - taken) (drop taken block)), length-take (length block - taken) (drop taken block), length-drop taken block)

  pub feeding-written : 0 < left → {size : ℕ}
      → size ≡ length (sent_for_lines p (cut (length held) (take begun held) (first_lines 1 (take (length block - taken) (drop taken block)))).ended) → written + size ≤ length out₀
  feeding-written h e =
      omega (arith, w.room, h, e, first_short (length held) (take begun held) (omega (arith, length-take begun held)) (take (length block - taken) (drop taken block)) p)

  module _ (n : ℕ) (e : left ≡ suc n) {p' : Progress} {begun' taken' size : ℕ} {held' out' : List ℕ}
      (g : Gives p (cut (length held) (take begun held) (first_lines 1 (drop taken block))) (length (first_lines 1 (drop taken block))) held (drop written out) p' begun' taken' size held' out')
      (k : length held' ≡ length held) where
    abbrev s : List ℕ
    s = drop taken block

    abbrev b : List ℕ
    b = take begun held

    abbrev first : Cut
    first = cut (length held) b (first_lines 1 s)

    small : length b ≤ length held
    small = omega (arith, length-take begun held)

    -- what is held and what is left, behind the first line
    begun-is : take begun' held' ≡ first.begun
    begun-is = (λ i. take (g.1.0 i) (g.1.1.1.1.0 i)) ∙ take-append_seam first.begun _

    rest-is : drop (taken + taken') block ≡ rest (length held) b small s
    rest-is = sym (drop-drop taken' taken block) ∙ ap (λ (m : ℕ). drop m s) g.1.1.0

    abbrev later : Cut
    later = cut (length held) first.begun (first_lines n (rest (length held) b small s))

    later-is : cut (length held') (take begun' held') (first_lines n (drop (taken + taken') block)) ≡ later
    later-is = λ i. cut (k i) (begun-is i) (first_lines n (rest-is i))

    both : cut (length held) b (first_lines left s) ≡ joined first later
    both = ap (λ (m : ℕ). cut (length held) b (first_lines m s)) e ∙ lines_cut (length held) b small s n

    v : List ℕ
    v = sent_for_lines p first.ended

    room_after : written + size + n * enough ≤ length out₀
    unfolding v
    room_after = omega (arith, w.room, e, g.1.1.1.0, first_short (length held) b small s p)

    takes-after : N ≡ taken + taken' + length (first_lines n (drop (taken + taken') block))
    takes-after =
        let l : length (first_lines left s) ≡ length (first_lines 1 s) + length (first_lines n (drop (taken + taken') block)) =
        ap (λ (m : ℕ). length (first_lines m s)) e ∙ ap length (lines_next n s) ∙ length-append (first_lines 1 s) _ ∙ ap (λ (l : List ℕ). length (first_lines 1 s) + length (first_lines n l)) (sym rest-is) in
        omega (arith, w.takes, l, g.1.1.0)

    -- the output of the first line, behind what was written
    abbrev done : List ℕ
    done = w.puts.done

    out-is : take written out ++ out' ≡ front (done ++ v) out₀
    unfolding v
    out-is =
        let t : take written out ≡ done = (λ i. take (sym w.puts.count i) (w.puts.holds i)) ∙ take-append_seam done _ in
        let d : drop written out ≡ drop (length done) out₀ = (λ i. drop (sym w.puts.count i) (w.puts.holds i)) ∙ drop-append_seam done _ in
        let o : out' ≡ front v (drop (length done) out₀) = g.1.1.1.1.1 ∙ ap (front v) d in
        (λ i. t i ++ o i) ∙ sym (append_assoc done v _)
        ∙ ap (λ (l : List ℕ). (done ++ v) ++ l) (drop-drop (length v) (length done) out₀ ∙ ap (λ (m : ℕ). drop m out₀) (sym (length-append done v)))

    puts-after : Put (sent_for_lines p₀ C.ended) out₀ (take written out ++ out') (written + size) (sent_for_lines p' (cut (length held') (take begun' held') (first_lines n (drop (taken + taken') block))).ended)
    unfolding v
    puts-after = record {
      done = done ++ v;
      count = length-append done v ∙ (λ i. w.puts.count i + sym g.1.1.1.0 i);
      holds = out-is;
      whole =
          w.puts.whole
          ∙ ap (done ++◌) (ap (λ (c : Cut). sent_for_lines p c.ended) both ∙ sent-append p first.ended later.ended ∙ (λ i. v ++ sent_for_lines (sym g.0 i) (sym later-is i).ended))
          ∙ sym (append_assoc done v _);
    }

    pub feeding-next : Feeding p₀ C N held₀ out₀ block p' begun' (taken + taken') (written + size) n held' (take written out ++ out')
    feeding-next = record {
      inside = omega (arith, w.inside, g.1.1.0, lines-inside 1 s, length-drop taken block);
      begun-inside = omega (arith, k, g.1.0, cut-held (length held) b (first_lines 1 s) small);
      room = room_after;
      takes = takes-after;
      goes = w.goes ∙ ap (λ (c : Cut). after_lines p c.ended) both ∙ after-append p first.ended later.ended ∙ (λ i. after_lines (sym g.0 i) (sym later-is i).ended);
      holds = w.holds ∙ ap (λ (c : Cut). c.begun) both ∙ ap (λ (c : Cut). c.begun) (sym later-is);
      keeps = w.keeps ∙ ap (λ (c : Cut). leaves c held) both ∙ leaves-joined (length held) b small s n held ∙ (λ i. leaves (sym later-is i) (sym g.1.1.1.1.0 i));
      puts = puts-after;
    }

  -- the same, of the parts of the block and of the output that run to their ends
  pub feeding-on : (n : ℕ) → left ≡ suc n → {p' : Progress} {begun' taken' size : ℕ} {held' out' : List ℕ}
      → Gives p (cut (length held) (take begun held) (first_lines 1 (take (length block - taken) (drop taken block)))) (length (first_lines 1 (take (length block - taken) (drop taken block)))) held (take (length out - written) (drop written out)) p' begun' taken' size held' out'
      → length held' ≡ length held → Feeding p₀ C N held₀ out₀ block p' begun' (taken + taken') (written + size) n held' (take written out ++ (out' ++ drop (length out - written) (drop written out)))
  feeding-on n e {out' = out'} g k = rw (rest-of-rest written out, append-nil out') (feeding-next n e (rw (part-rest taken block, part-rest written out) at g) k)

  -- nothing is left
  module _ (z : first_lines left (drop taken block) ≡ []) where
    abbrev c : Cut
    c = cut (length held) (take begun held) (first_lines left (drop taken block))

    c-is : c ≡ record { ended = []; begun = take begun held }
    unfolding cut
    c-is = ap (cut (length held) (take begun held)) z

    puts-all : Put (sent_for_lines p₀ C.ended) out₀ out written []
    unfolding sent_for_lines
    puts-all = rw c-is at w.puts

    pub feeding-done : Gives p₀ C N held₀ out₀ p begun taken written held out
    unfolding after_lines held_after
    feeding-done = (
      sym (w.goes ∙ ap (λ (c : Cut). after_lines p c.ended) c-is),
      (
        sym (ap length (w.holds ∙ ap (λ (c : Cut). c.begun) c-is) ∙ length-take-le begun held w.begun-inside),
        (
          omega (arith, w.takes, ap length z),
          (
            sym puts-all.count ∙ ap length (sym (puts-all.whole ∙ append-nil puts-all.done)),
            (
              sym (w.keeps ∙ ap (λ (c : Cut). leaves c held) c-is ∙ sym (front-taken begun held)),
              put-done puts-all,
            ),
          ),
        ),
      ),
    )

  pub feeding-out : length block ≤ taken → first_lines left (drop taken block) ≡ []
  feeding-out h = ap (first_lines left) (drop_of_length-le block h) ∙ none_left left

-- ---- the end of the input
-- a line end is missing exactly where a line has begun
missing-none : (begun : ℕ) (held : List ℕ) → min begun (length held) ≡ 0 → missing_end (take begun held) ≡ []
missing-none begun held e = ap missing_end (sym (take_min begun held) ∙ ap (λ (n : ℕ). take n held) e)

missing-end : (begun : ℕ) (held : List ℕ) → (min begun (length held) ≡ 0 → ⊥) → missing_end (take begun held) ≡ 0x0A ∷ []
missing-end zero held h = absurd (h (omega arith))
missing-end (suc n) [] h = absurd (h (omega arith))
missing-end (suc n) (x ∷ held) h = refl

-- what a block gives, of one that runs to the end
abbrev pub GivesAll : Progress → List ℕ → ℕ → List ℕ → List ℕ → Progress → ℕ → ℕ → ℕ → List ℕ → List ℕ → Type 0
GivesAll p held begun out block = Gives p (cut (length held) (take begun held) (portion (length out) block)) (length (portion (length out) block)) held out

module _ (p : Progress) (held : List ℕ) (begun : ℕ) (out : List ℕ) {m : ℕ} (e : m ≡ min begun (length held)) {p' : Progress} {b t w : ℕ} {held' out' : List ℕ} where
  pub finished : m ≡ 0 → GivesAll p held begun out [] p' b t w held' out' → GivesAll p held begun out (missing_end (take begun held)) p' b t w held' out'
  finished z g = subst (λ (l : List ℕ). GivesAll p held begun out l p' b t w held' out') (sym (missing-none begun held (sym e ∙ z))) g

  pub finishes : (m ≡ 0 → ⊥) → GivesAll p held begun out (0x0A ∷ []) p' b t w held' out' → GivesAll p held begun out (missing_end (take begun held)) p' b t w held' out'
  finishes z g = subst (λ (l : List ℕ). GivesAll p held begun out l p' b t w held' out') (sym (missing-end begun held (λ k. z (e ∙ k)))) g
