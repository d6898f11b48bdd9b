-- Laws of the open streams' numbers, changed where they lie: one more, and one less. Assumes nothing.
use mathlib.Core.Path.{◌≡◌, refl, sym, ap, ◌∙◌}
use mathlib.Core.Bool.{Bool, true, false, cond}
use mathlib.Core.List.{List, [], ◌∷◌, ◌++◌}
use Prim.Native.Nat.{ℕ, suc, ◌+◌, ◌<◌, ◌≤◌}
use native.Mathlib.Nat.{zero-add}
use native.Mathlib.Omega.{arith}
use lib.Dec.{eqb}
use lib.ListN.{length, take, get_or, set, length-append}
use lib.Seq.{sets, get_or-set_other}
use Rattle.states.specs.Table.{without, one_more, one_less}
use Rattle.states.proofs.Lists.{sets-snoc, sets-own, take_more}
use Rattle.record.specs.Record.{open_of}
use Rattle.record.proofs.Opened.{open-length}
use Rattle.steps.specs.Private.Changes.{Laid}

-- ---- the first n of 8 numbers
module _ (l : List ℕ) (n : ℕ) (long : length l ≡ 8) where
  -- a number stored behind them
  pub pushed : (x : ℕ) → n < 8 → set l n x ≡ sets l 0 (take n l ++ (x ∷ []))
  pushed x few =
      ap (λ (m : List ℕ). set m n x) (sym (sets-own l n (omega arith))) ∙ sets-snoc l (take n l) n x (open-length l long n (omega arith))

  -- they stand as they are
  pub laid-own : (next : ℕ) → n ≤ 8 → Laid (open_of l n next) l l (record { count = n; next = next })
  laid-own next few = record { count = sym (open-length l long n few); next = refl; numbers = sym (sets-own l n (omega arith)) }

  -- the next number is open, too
  pub laid_more : (next : ℕ) (after : List ℕ) → n < 8 → after ≡ sets l 0 (take n l ++ (next ∷ [])) → Laid (one_more (open_of l n next)) l after (record { count = n + 1; next = next + 1 })
  laid_more next after few e = record {
    count = sym (length-append (take n l) (next ∷ []) ∙ ap (λ (k : ℕ). k + 1) (open-length l long n (omega arith)));
    next = refl;
    numbers = e;
  }

-- ---- one less: the others move up, one by one
without-snoc : (q : ℕ) (l : List ℕ) (x : ℕ) (b : Bool) → eqb x q ≡ b → without q (l ++ (x ∷ [])) ≡ cond b (without q l) (without q l ++ (x ∷ []))
without-snoc q [] x b e = ap (λ (t : Bool). cond t [] (x ∷ [])) e
without-snoc q (y ∷ ys) x b e = by-head (eqb y q) b (without-snoc q ys x b e)
  where
    by-head : (t b : Bool) → without q (ys ++ (x ∷ [])) ≡ cond b (without q ys) (without q ys ++ (x ∷ []))
        → cond t (without q (ys ++ (x ∷ []))) (y ∷ without q (ys ++ (x ∷ []))) ≡ cond b (cond t (without q ys) (y ∷ without q ys)) (cond t (without q ys) (y ∷ without q ys) ++ (x ∷ []))
    by-head true b h = h
    by-head false true h = ap (λ (l : List ℕ). y ∷ l) h
    by-head false false h = ap (λ (l : List ℕ). y ∷ l) h

-- behind a run of stores stands what stood there
unchanged : (l : List ℕ) (j : ℕ) (v : List ℕ) (i : ℕ) → j + length v ≤ i → get_or (sets l j v) i 0 ≡ get_or l i 0
unchanged l j [] i h = refl
unchanged l j (a ∷ v) i h = unchanged (set l j a) (suc j) v i (omega arith) ∙ get_or-set_other l j i a 0 (λ e. omega arith)

-- the first i of the old numbers have been looked at
pub record Kept (q : ℕ) (old numbers : List ℕ) (left i : ℕ) : Type 0 where
  pub few : left ≤ i
  pub size : left ≡ length (without q (take i old))
  pub stored : numbers ≡ sets old 0 (without q (take i old))

pub kept-none : (q : ℕ) (old : List ℕ) → Kept q old old 0 0
kept-none q old = record { few = omega arith; size = refl; stored = refl }

module _ (q : ℕ) (old numbers : List ℕ) (left i : ℕ) (k : Kept q old numbers left i) (h : i < length old) where
  abbrev x : ℕ
  x = get_or numbers i 0

  -- the one looked at is still the old one
  same : x ≡ get_or old i 0
  same = ap (λ (l : List ℕ). get_or l i 0) k.stored ∙ unchanged old 0 (without q (take i old)) i (omega (arith, k.few, k.size, zero-add (length (without q (take i old)))))

  more : (b : Bool) → eqb x q ≡ b → without q (take (i + 1) old) ≡ cond b (without q (take i old)) (without q (take i old) ++ (x ∷ []))
  more b e = ap (without q) (sym (take_more old i 0 h) ∙ ap (λ (y : ℕ). take i old ++ (y ∷ [])) (sym same)) ∙ without-snoc q (take i old) x b e

  pub kept-gone : eqb x q ≡ true → Kept q old numbers left (i + 1)
  kept-gone e = record { few = omega (arith, k.few); size = k.size ∙ ap length (sym (more true e)); stored = k.stored ∙ ap (sets old 0) (sym (more true e)) }

  pub kept_more : eqb x q ≡ false → Kept q old (set numbers left x) (left + 1) (i + 1)
  kept_more e = record {
    few = omega (arith, k.few);
    size = ap (λ (n : ℕ). n + 1) k.size ∙ sym (length-append (without q (take i old)) (x ∷ [])) ∙ ap length (sym (more false e));
    stored = ap (λ (l : List ℕ). set l left x) k.stored ∙ sets-snoc old (without q (take i old)) left x (sym k.size) ∙ ap (sets old 0) (sym (more false e));
  }

pub kept-all : (q : ℕ) (old numbers : List ℕ) (left i n : ℕ) → Kept q old numbers left i → i ≡ n → (left ≡ length (without q (take n old))) × (numbers ≡ sets old 0 (without q (take n old)))
kept-all q old numbers left i n k e = (k.size ∙ ap (λ (m : ℕ). length (without q (take m old))) e, k.stored ∙ ap (λ (m : ℕ). sets old 0 (without q (take m old))) e)

-- a number is open no more
pub laid-less : (l : List ℕ) (n next : ℕ) (after : List ℕ) {number q left : ℕ} → number ≡ q → (left ≡ length (without number (take n l))) × (after ≡ sets l 0 (without number (take n l)))
    → Laid (one_less q (open_of l n next)) l after (record { count = left; next = next })
laid-less l n next after e p = record {
  count = p.0 ∙ ap (λ (m : ℕ). length (without m (take n l))) e;
  next = refl;
  numbers = p.1 ∙ ap (λ (m : ℕ). sets l 0 (without m (take n l))) e;
}
