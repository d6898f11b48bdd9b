-- The theorem `cutting`: however a stream is cut into blocks, the lines are the stream's. With it, what a block gives as far as its first
-- line, and behind it. Assumes nothing.
use mathlib.Core.Path.{◌≡◌, refl, sym, ap, ◌∙◌}
use mathlib.Core.Bool.{Bool, true, false, false≢true, cond}
use mathlib.Core.List.{List, [], ◌∷◌, ◌++◌, map, flatten, append_assoc, append-nil}
use Prim.Native.Nat.{ℕ, zero, suc, ◌≤◌}
use native.Mathlib.Omega.{arith}
use lib.ListN.{length, take, drop, length-take}
use lib.Seq.{take_all, take-take}
use Rattle.lines.specs.Lines.{is_end, leading, lines_of, first_line, has_end, first_lines}
use Rattle.lines.specs.Blocks.{Cut, after, cut, held_of, missing_end, lines_in, Claim}

-- ---- what is held
-- of a line it is enough to have held its beginning
pub held-twice : (most : ℕ) (b l : List ℕ) → take most (take most b ++ l) ≡ take most (b ++ l)
held-twice zero b l = refl
held-twice (suc n) [] l = refl
held-twice (suc n) (x ∷ b) l = ap (x ∷◌) (held-twice n b l)

-- a line that has begun, in front of the lines behind it
abbrev behind : List ℕ → List (List ℕ) → List (List ℕ)
behind [] lines = lines
behind (x ∷ b) [] = (x ∷ b) ∷ []
behind (x ∷ b) (line ∷ lines) = (x ∷ b ++ line) ∷ lines

-- ---- two blocks
abbrev pub joined : Cut → Cut → Cut
joined c d = record { ended = c.ended ++ d.ended; begun = d.begun }

pub cut-append : (most : ℕ) (begun s t : List ℕ) → cut most begun (s ++ t) ≡ joined (cut most begun s) (cut most (cut most begun s).begun t)
unfolding cut
cut-append most begun [] t = refl
cut-append most begun (c ∷ s) t = by (is_end c) (cut-append most [] s t) (cut-append most (take most (begun ++ (c ∷ []))) s t)
  where
    by : (b : Bool) → cut most [] (s ++ t) ≡ joined (cut most [] s) (cut most (cut most [] s).begun t)
        → cut most (take most (begun ++ (c ∷ []))) (s ++ t) ≡ joined (cut most (take most (begun ++ (c ∷ []))) s) (cut most (cut most (take most (begun ++ (c ∷ []))) s).begun t)
        → cond b (after begun (cut most [] (s ++ t))) (cut most (take most (begun ++ (c ∷ []))) (s ++ t))
        ≡ joined (cond b (after begun (cut most [] s)) (cut most (take most (begun ++ (c ∷ []))) s)) (cut most (cond b (after begun (cut most [] s)) (cut most (take most (begun ++ (c ∷ []))) s)).begun t)
    by true e f = ap (after begun) e
    by false e f = f

-- ---- the first line of a block
-- so many lines are the first, and one less of the rest
pub lines_next : (n : ℕ) (s : List ℕ) → first_lines (suc n) s ≡ first_lines 1 s ++ first_lines n (drop (length (first_lines 1 s)) s)
unfolding first_lines
lines_next zero [] = refl
lines_next (suc n) [] = refl
lines_next n (c ∷ s) = by (is_end c) (lines_next n s)
  where
    by : (b : Bool) → first_lines (suc n) s ≡ first_lines 1 s ++ first_lines n (drop (length (first_lines 1 s)) s)
        → c ∷ cond b (first_lines n s) (first_lines (suc n) s) ≡ (c ∷ cond b [] (first_lines 1 s)) ++ first_lines n (drop (length (c ∷ cond b [] (first_lines 1 s))) (c ∷ s))
    by true e = refl
    by false e = ap (c ∷◌) e

-- and what is behind them
pub lines_rest : (n : ℕ) (s : List ℕ) → s ≡ first_lines n s ++ drop (length (first_lines n s)) s
unfolding first_lines
lines_rest zero s = refl
lines_rest (suc n) [] = refl
lines_rest (suc n) (c ∷ s) = by (is_end c) (lines_rest n s) (lines_rest (suc n) s)
  where
    by : (b : Bool) → s ≡ first_lines n s ++ drop (length (first_lines n s)) s → s ≡ first_lines (suc n) s ++ drop (length (first_lines (suc n) s)) s
        → c ∷ s ≡ (c ∷ cond b (first_lines n s) (first_lines (suc n) s)) ++ drop (length (c ∷ cond b (first_lines n s) (first_lines (suc n) s))) (c ∷ s)
    by true e f = ap (c ∷◌) e
    by false e f = ap (c ∷◌) f

-- there is one where there are characters
pub lines-some : (n : ℕ) (s : List ℕ) → 1 ≤ n → 1 ≤ length s → 1 ≤ length (first_lines n s)
unfolding first_lines
lines-some zero s h k = absurd (omega (arith, h))
lines-some (suc n) [] h k = absurd (omega (arith, k))
lines-some (suc n) (c ∷ s) h k = omega arith

-- they lie inside
pub lines-inside : (n : ℕ) (s : List ℕ) → length (first_lines n s) ≤ length s
unfolding first_lines
lines-inside zero s = omega arith
lines-inside (suc n) [] = omega arith
lines-inside (suc n) (c ∷ s) = by (is_end c) (lines-inside n s) (lines-inside (suc n) s)
  where
    by : (b : Bool) → length (first_lines n s) ≤ length s → length (first_lines (suc n) s) ≤ length s → suc (length (cond b (first_lines n s) (first_lines (suc n) s))) ≤ suc (length s)
    by true h k = omega (arith, h)
    by false h k = omega (arith, k)

-- so does what `take_line` takes
pub taken-fits : (s : List ℕ) {n : ℕ} → n ≡ length (first_lines 1 s) → n ≤ length s
taken-fits s e = omega (arith, lines-inside 1 s)

-- without a line end they are all there is
pub lines-all : (s : List ℕ) → has_end s ≡ false → first_lines 1 s ≡ s
unfolding first_lines has_end
lines-all [] e = refl
lines-all (c ∷ s) e = by (is_end c) e (lines-all s)
  where
    by : (b : Bool) → cond b true (has_end s) ≡ false → (has_end s ≡ false → first_lines 1 s ≡ s) → c ∷ cond b [] (first_lines 1 s) ≡ c ∷ s
    by true e f = absurd (false≢true (sym e))
    by false e f = ap (c ∷◌) (f e)

-- what it gives: the line, if it ends
abbrev pub first_cut : Bool → List ℕ → Cut
first_cut true line = record { ended = line ∷ []; begun = [] }
first_cut false line = record { ended = []; begun = line }

pub cut-first : (most : ℕ) (begun s : List ℕ) → length begun ≤ most → cut most begun (first_lines 1 s) ≡ first_cut (has_end s) (held_of most begun s)
unfolding cut first_lines has_end first_line
cut-first most begun [] h = ap (λ (l : List ℕ). record { ended = []; begun = l }) (sym (ap (take most) (append-nil begun) ∙ take_all most begun h))
cut-first most begun (c ∷ s) h = by (is_end c) (cut-first most (take most (begun ++ (c ∷ []))) s (omega (arith, length-take most (begun ++ (c ∷ [])))))
  where
    by : (b : Bool) → cut most (take most (begun ++ (c ∷ []))) (first_lines 1 s) ≡ first_cut (has_end s) (held_of most (take most (begun ++ (c ∷ []))) s)
        → cond b (after begun (cut most [] (cond b [] (first_lines 1 s)))) (cut most (take most (begun ++ (c ∷ []))) (cond b [] (first_lines 1 s)))
        ≡ first_cut (cond b true (has_end s)) (take most (begun ++ cond b [] (c ∷ first_line s)))
    by true e = ap (λ (l : List ℕ). record { ended = l ∷ []; begun = [] }) (sym (ap (take most) (append-nil begun) ∙ take_all most begun h))
    by false e = e ∙ ap (first_cut (has_end s)) (held-twice most (begun ++ (c ∷ [])) (first_line s) ∙ ap (take most) (append_assoc begun (c ∷ []) (first_line s)))

-- ---- the whole stream
-- one more character of the line that has begun
behind-next : (b : List ℕ) (c : ℕ) (lines : List (List ℕ)) → behind b (leading c lines) ≡ behind (b ++ (c ∷ [])) lines
behind-next [] c [] = refl
behind-next [] c (line ∷ lines) = refl
behind-next (x ∷ b) c [] = refl
behind-next (x ∷ b) c (line ∷ lines) = ap (λ (l : List ℕ). (x ∷ l) ∷ lines) (sym (append_assoc b (c ∷ []) line))

-- its end
behind-end : (b : List ℕ) (lines : List (List ℕ)) → behind b ([] ∷ lines) ≡ b ∷ lines
behind-end [] lines = refl
behind-end (x ∷ b) lines = ap (λ (l : List ℕ). (x ∷ l) ∷ lines) (append-nil b)

-- as far as it is held
behind-held : (most : ℕ) (b : List ℕ) (lines : List (List ℕ)) → 1 ≤ most → map (take most) (behind (take most b) lines) ≡ map (take most) (behind b lines)
behind-held zero b lines h = absurd (omega (arith, h))
behind-held (suc n) [] lines h = refl
behind-held (suc n) (x ∷ b) [] h = ap (λ (l : List ℕ). (x ∷ l) ∷ []) (take-take n n b (omega arith))
behind-held (suc n) (x ∷ b) (line ∷ lines) h = ap (λ (l : List ℕ). (x ∷ l) ∷ map (take (suc n)) lines) (held-twice n b line)

-- the lines of what is left of a stream, behind the one that has begun
abbrev held-lines : ℕ → List ℕ → List ℕ → List (List ℕ)
held-lines most begun s = map (take most) (behind begun (lines_of s))

cut-lines : (most : ℕ) → 1 ≤ most → (begun s t : List ℕ) → length begun ≤ most
    → held-lines most begun (s ++ t) ≡ (cut most begun s).ended ++ held-lines most (cut most begun s).begun t
unfolding cut lines_of
cut-lines most h begun [] t k = refl
cut-lines most h begun (c ∷ s) t k =
    by (is_end c) (cut-lines most h [] s t (omega arith)) (cut-lines most h (take most (begun ++ (c ∷ []))) s t (omega (arith, length-take most (begun ++ (c ∷ [])))))
  where
    by : (b : Bool) → held-lines most [] (s ++ t) ≡ (cut most [] s).ended ++ held-lines most (cut most [] s).begun t
        → held-lines most (take most (begun ++ (c ∷ []))) (s ++ t) ≡ (cut most (take most (begun ++ (c ∷ []))) s).ended ++ held-lines most (cut most (take most (begun ++ (c ∷ []))) s).begun t
        → map (take most) (behind begun (cond b ([] ∷ lines_of (s ++ t)) (leading c (lines_of (s ++ t)))))
        ≡ (cond b (after begun (cut most [] s)) (cut most (take most (begun ++ (c ∷ []))) s)).ended ++ held-lines most (cond b (after begun (cut most [] s)) (cut most (take most (begun ++ (c ∷ []))) s)).begun t
    by true e f = ap (map (take most)) (behind-end begun (lines_of (s ++ t))) ∙ (λ i. take_all most begun k i ∷ e i)
    by false e f = ap (map (take most)) (behind-next begun c (lines_of (s ++ t))) ∙ sym (behind-held most (begun ++ (c ∷ [])) (lines_of (s ++ t)) h) ∙ f

-- no more is held than may be
pub cut-held : (most : ℕ) (begun s : List ℕ) → length begun ≤ most → length (cut most begun s).begun ≤ most
unfolding cut
cut-held most begun [] h = h
cut-held most begun (c ∷ s) h = by (is_end c) (cut-held most [] s (omega arith)) (cut-held most (take most (begun ++ (c ∷ []))) s (omega (arith, length-take most (begun ++ (c ∷ [])))))
  where
    by : (b : Bool) → length (cut most [] s).begun ≤ most → length (cut most (take most (begun ++ (c ∷ []))) s).begun ≤ most
        → length (cond b (after begun (cut most [] s)) (cut most (take most (begun ++ (c ∷ []))) s)).begun ≤ most
    by true e f = e
    by false e f = f

-- at the end of the stream
last-lines : (most : ℕ) (begun : List ℕ) → length begun ≤ most → (cut most begun (missing_end begun)).ended ≡ held-lines most begun []
unfolding cut lines_of
last-lines most [] h = refl
last-lines most (x ∷ b) h = ap (λ (l : List ℕ). l ∷ []) (sym (take_all most (x ∷ b) h))

blocks-lines : (most : ℕ) → 1 ≤ most → (begun : List ℕ) (blocks : List (List ℕ)) → length begun ≤ most → lines_in most begun blocks ≡ held-lines most begun (flatten blocks)
unfolding lines_in flatten
blocks-lines most h begun [] k = last-lines most begun k
blocks-lines most h begun (block ∷ blocks) k =
    ap (λ (l : List (List ℕ)). (cut most begun block).ended ++ l) (blocks-lines most h (cut most begun block).begun blocks (cut-held most begun block k))
    ∙ sym (cut-lines most h begun block (flatten blocks) k)

pub cutting : Claim
cutting most h blocks = blocks-lines most h [] blocks (omega arith)
