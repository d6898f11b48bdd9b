-- Laws of the search for a line's end and of what is held of a line. Assumes nothing.
use mathlib.Core.Path.{◌≡◌, refl, sym, ap, ◌∙◌}
use mathlib.Core.Logic.{⊎_elim}
use mathlib.Core.Bool.{Bool, true, false, cond}
use mathlib.Core.List.{List, [], ◌∷◌, ◌++◌}
use Prim.Native.Nat.{ℕ, zero, suc, ◌+◌, ◌-◌, ◌<◌, ◌≤◌, min}
use native.Mathlib.Omega.{arith}
use lib.ListN.{length, take, length-take}
use lib.Seq.{sets, take-nil, take-append-add, take-take, take_all, length-take-le}
use borrow.Author.Tests.{eq-eqb, ne_eqb, lt-ltb, le-ltb}
use lib.Dec.{ltb}
use Rattle.std.specs.Prelude.{Option, MatchOption, unwrap_or, ◌≢◌}
use Rattle.std.specs.List.{AllWithin, HoldsAt}
use Rattle.std.proofs.lemmas.Iterator.{index_from_first}
use Rattle.slices.specs.Parts.{copied, fits, front}
use Rattle.slices.proofs.Parts.{sets-front, fits-yes}
use Rattle.slices.proofs.Tests.{lt-or-ge}
use Rattle.lines.specs.Lines.{is_end, first_line, has_end, first_lines}
use Rattle.lines.specs.Blocks.{held_of}

-- ---- the search
-- the first line is as long as the place of the first line end, or the list where there is none
pub first_end : (s : List ℕ) (r : Option ℕ)
    → MatchOption r (AllWithin (λ c. c ≢ 0x0A) s 0 (length s)) (λ i. (i < length s) × HoldsAt (λ c. c ≡ 0x0A) s i × AllWithin (λ c. c ≢ 0x0A) s 0 i)
    → length (first_line s) ≡ unwrap_or r (length s)
unfolding first_line
first_end s r found =
    index_from_first (λ l. length (first_line l)) (λ c. c ≡ 0x0A) (λ c. c ≢ 0x0A) refl (λ c l e. rw (eq-eqb c 0x0A e) refl)
    (λ c l h. rw (ne_eqb c 0x0A h) (omega arith)) s r found

-- ---- what the line's length decides
-- where it ends, a line end is taken with it
pub line-ends : (s : List ℕ) → length (first_line s) < length s → (length (first_line s) + 1 ≡ length (first_lines 1 s)) × (true ≡ has_end s)
unfolding first_line has_end first_lines
line-ends [] h = absurd (omega (arith, h))
line-ends (c ∷ s) h = by (is_end c) h (line-ends s)
  where
    by : (b : Bool) → length (cond b [] (c ∷ first_line s)) < suc (length s)
        → (length (first_line s) < length s → (length (first_line s) + 1 ≡ length (first_lines 1 s)) × (true ≡ has_end s))
        → (length (cond b [] (c ∷ first_line s)) + 1 ≡ suc (length (cond b [] (first_lines 1 s)))) × (true ≡ cond b true (has_end s))
    by true k e = (omega arith, refl)
    by false k e = let r = e (omega (arith, k)) in (omega (arith, r.0), r.1)

-- where it does not, it is all there is
pub line-goes-on : (s : List ℕ) → length s ≤ length (first_line s) → (length (first_line s) ≡ length (first_lines 1 s)) × (false ≡ has_end s)
unfolding first_line has_end first_lines
line-goes-on [] h = (refl, refl)
line-goes-on (c ∷ s) h = by (is_end c) h (line-goes-on s)
  where
    by : (b : Bool) → suc (length s) ≤ length (cond b [] (c ∷ first_line s))
        → (length s ≤ length (first_line s) → (length (first_line s) ≡ length (first_lines 1 s)) × (false ≡ has_end s))
        → (length (cond b [] (c ∷ first_line s)) ≡ suc (length (cond b [] (first_lines 1 s)))) × (false ≡ cond b true (has_end s))
    by true k e = absurd (omega (arith, k))
    by false k e = let r = e (omega (arith, k)) in (omega (arith, r.0), r.1)

-- so a line end is there exactly if the line is shorter than all
pub ends-inside : (s : List ℕ) {n : ℕ} → n ≡ length (first_line s) → ltb n (length s) ≡ has_end s
ends-inside s {n} e =
    ⊎_elim (λ h. lt-ltb n (length s) h ∙ (line-ends s (omega (arith, e, h))).1) (λ h. le-ltb n (length s) h ∙ (line-goes-on s (omega (arith, e, h))).1)
    (lt-or-ge n (length s))

-- it lies inside
line-inside : (s : List ℕ) → length (first_line s) ≤ length s
unfolding first_line
line-inside [] = omega arith
line-inside (c ∷ s) = by (is_end c) (line-inside s)
  where
    by : (b : Bool) → length (first_line s) ≤ length s → length (cond b [] (c ∷ first_line s)) ≤ suc (length s)
    by true h = omega arith
    by false h = omega (arith, h)

-- the first line is the front of the list
pub line-front : (s : List ℕ) → first_line s ≡ take (length (first_line s)) s
unfolding first_line
line-front [] = refl
line-front (c ∷ s) = by (is_end c) (line-front s)
  where
    by : (b : Bool) → first_line s ≡ take (length (first_line s)) s → cond b [] (c ∷ first_line s) ≡ take (length (cond b [] (c ∷ first_line s))) (c ∷ s)
    by true e = refl
    by false e = ap (c ∷◌) e

-- ---- what is held
-- the line that a list begins with stands in front of it
pub front-taken : (n : ℕ) (d : List ℕ) → d ≡ front (take n d) d
front-taken n [] = simp take-nil
front-taken zero (x ∷ d) = refl
front-taken (suc n) (x ∷ d) = ap (x ∷◌) (front-taken n d)

-- a line is held behind its beginning as far as there is room
held-behind : (most : ℕ) (b l : List ℕ) → length b ≤ most → take most (b ++ l) ≡ b ++ take (most - length b) l
held-behind most b l h =
    let e : most ≡ length b + (most - length b) = omega arith in
    ap (λ (n : ℕ). take n (b ++ l)) e ∙ take-append-add b l (most - length b)

-- a front of a front
take-front : (n m : ℕ) (l : List ℕ) → take n (take m l) ≡ take (min m n) l
take-front n m l =
    ⊎_elim (λ h. let e : min m n ≡ n = omega (arith, h) in take-take n m l (omega (arith, h)) ∙ ap (λ (k : ℕ). take k l) (sym e))
    (λ h. let e : min m n ≡ m = omega (arith, h) in take_all n (take m l) (omega (arith, h, length-take m l)) ∙ ap (λ (k : ℕ). take k l) (sym e))
    (lt-or-ge n m)

-- what `take_line` keeps of a line, and what it leaves
module _ (held : List ℕ) (begun : ℕ) (block : List ℕ) {at kept size : ℕ}
    (a : at ≡ min begun (length held)) (n : size ≡ length (first_line block)) (k : kept ≡ min size (length held - at)) where
  abbrev b : List ℕ
  b = take begun held

  b-length : length b ≡ at
  b-length = length-take begun held ∙ sym a

  kept-inside : kept ≤ length block
  kept-inside = omega (arith, k, n, line-inside block)

  line-is : held_of (length held) b block ≡ b ++ take kept block
  line-is =
      held-behind (length held) b (first_line block) (omega (arith, b-length, a))
      ∙ ap (b ++◌)
      (ap (take (length held - length b)) (line-front block)
      ∙ take-front (length held - length b) (length (first_line block)) block
      ∙ ap (λ (m : ℕ). take m block) (let e : min (length (first_line block)) (length held - length b) ≡ kept = omega (arith, k, n, b-length) in e))

  pub line-held : {d : List ℕ} → d ≡ copied block 0 kept held at → d ≡ front (held_of (length held) b block) held
  line-held {d} e =
      let f : fits block 0 kept held at ≡ true = fits-yes block 0 kept held at (omega (arith, kept-inside)) (omega (arith, a, k)) in
      e
      ∙ ap (λ (t : Bool). cond t (sets held at (take kept block)) held) f
      ∙ (λ i. sets (front-taken begun held i) (sym b-length i) (take kept block))
      ∙ sets-front b (take kept block) held (omega (arith, b-length, a, k, length-take-le kept block kept-inside))
      ∙ ap (λ (l : List ℕ). front l held) (sym line-is)
