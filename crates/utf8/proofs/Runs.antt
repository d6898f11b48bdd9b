-- Laws of runs of ASCII. Assumes nothing.
use mathlib.Core.Path.{◌≡◌, refl, sym, ap, ◌∙◌}
use mathlib.Core.Bool.{Bool, true, false, false≢true, true≢false, cond, ◌&&◌, and_assoc}
use mathlib.Core.List.{List, [], ◌∷◌, ◌++◌}
use Prim.Native.Nat.{ℕ, zero, suc, ◌+◌, ◌-◌, ◌≤◌, ◌<◌}
use native.Mathlib.Nat.{not-suc-le-zero}
use native.Mathlib.Omega.{arith}
use borrow.Author.Tests.{eqb-true, eqb-false, ltb-true, ltb-false}
use lib.Dec.{eqb, ltb}
use lib.ListN.{length, get_or, take, drop, length-drop}
use lib.Seq.{drop-drop, get_or-drop}
use Rattle.slices.specs.Parts.{part}
use Rattle.utf8.specs.Private.Ascii.{all_below, ascii_run}

-- a byte is ASCII, or it is not
pub ascii-or-not : (P : Bool → Type 0) (b : ℕ) → (b < 0x80 → P true) → (0x80 ≤ b → P false) → P (ltb b 0x80)
ascii-or-not P b below above = go (ltb b 0x80) refl
  where
    go : (t : Bool) → ltb b 0x80 ≡ t → P t
    go true e = below (ltb-true b 0x80 e)
    go false e = above (ltb-false b 0x80 e)

-- ---- a run and its bytes

-- it lies inside the list
pub run-le : (s : List ℕ) → ascii_run s ≤ length s
unfolding ascii_run
run-le [] = omega arith
run-le (b ∷ s) =
    ascii-or-not (λ t. cond t (suc (ascii_run s)) 0 ≤ suc (length s)) b (λ l. omega (arith, run-le s)) (λ l. omega arith)

-- past a part of it, the rest of it follows
pub run_drop : (k : ℕ) (s : List ℕ) → k ≤ ascii_run s → k + ascii_run (drop k s) ≡ ascii_run s
unfolding ascii_run
run_drop zero s h = omega arith
run_drop (suc k) [] h = absurd (not-suc-le-zero h)
run_drop (suc k) (b ∷ s) h =
    ascii-or-not (λ t. suc k ≤ cond t (suc (ascii_run s)) 0 → suc k + ascii_run (drop k s) ≡ cond t (suc (ascii_run s)) 0) b
    (λ l g. omega (arith, run_drop k s (omega arith))) (λ l g. absurd (not-suc-le-zero g)) h

-- the byte behind it, if there is one, is not ASCII
pub run_end : (s : List ℕ) → ascii_run s < length s → 0x80 ≤ get_or s (ascii_run s) 0
unfolding ascii_run
run_end [] h = absurd (not-suc-le-zero h)
run_end (b ∷ s) h =
    ascii-or-not (λ t. cond t (suc (ascii_run s)) 0 < suc (length s) → 0x80 ≤ get_or (b ∷ s) (cond t (suc (ascii_run s)) 0) 0) b
    (λ l g. run_end s (omega arith)) (λ l g. l) h

-- a byte that is not ASCII ends it
pub run-stops : (s : List ℕ) (i : ℕ) → 0x80 ≤ get_or s i 0 → ascii_run s ≤ i
unfolding ascii_run
run-stops [] i h = omega arith
run-stops (b ∷ s) zero h = ascii-or-not (λ t. cond t (suc (ascii_run s)) 0 ≤ 0) b (λ l. absurd (omega arith)) (λ l. omega arith)
run-stops (b ∷ s) (suc i) h =
    ascii-or-not (λ t. cond t (suc (ascii_run s)) 0 ≤ suc i) b (λ l. omega (arith, run-stops s i h)) (λ l. omega arith)

-- a byte that is ASCII prolongs it
pub run_more : (s : List ℕ) (i : ℕ) → i < length s → get_or s i 0 < 0x80 → i ≤ ascii_run s → i + 1 ≤ ascii_run s
run_more s i h l k = go (eqb i (ascii_run s)) refl
  where
    go : (t : Bool) → eqb i (ascii_run s) ≡ t → i + 1 ≤ ascii_run s
    go true e =
        let x : i ≡ ascii_run s = eqb-true i (ascii_run s) e in
        let u : 0x80 ≤ get_or s i 0 = rw x (run_end s (rw (← x) h)) in
        absurd (omega arith)
    go false e = omega (arith, eqb-false i (ascii_run s) e)

-- what is cut off behind it does not touch it
pub run_take : (k : ℕ) (s : List ℕ) → ascii_run s ≤ k → ascii_run (take k s) ≡ ascii_run s
unfolding ascii_run
run_take zero s h = omega arith
run_take (suc k) [] h = refl
run_take (suc k) (b ∷ s) h =
    ascii-or-not (λ t. cond t (suc (ascii_run s)) 0 ≤ suc k → cond t (suc (ascii_run (take k s))) 0 ≡ cond t (suc (ascii_run s)) 0) b
    (λ l g. ap suc (run_take k s (omega arith))) (λ l g. refl) h

-- ---- a run and what is tested at once

-- k bytes are ASCII: the run has them
pub all-run : (k : ℕ) (s : List ℕ) → k ≤ length s → all_below 0x80 (take k s) ≡ true → k ≤ ascii_run s
unfolding ascii_run all_below
all-run zero s h e = omega arith
all-run (suc k) [] h e = absurd (not-suc-le-zero h)
all-run (suc k) (b ∷ s) h e =
    ascii-or-not (λ t. (t && all_below 0x80 (take k s)) ≡ true → suc k ≤ cond t (suc (ascii_run s)) 0) b
    (λ l g. omega (arith, all-run k s (omega arith) g)) (λ l g. absurd (false≢true g)) e

-- one of them is not: the run ends before k
pub not-all-run : (k : ℕ) (s : List ℕ) → all_below 0x80 (take k s) ≡ false → ascii_run s < k
unfolding ascii_run all_below
not-all-run zero s e = absurd (true≢false e)
not-all-run (suc k) [] e = absurd (true≢false e)
not-all-run (suc k) (b ∷ s) e =
    ascii-or-not (λ t. (t && all_below 0x80 (take k s)) ≡ false → cond t (suc (ascii_run s)) 0 < suc k) b
    (λ l g. omega (arith, not-all-run k s g)) (λ l g. omega arith) e

-- of two parts
pub all_append : (n : ℕ) (s t : List ℕ) → all_below n (s ++ t) ≡ (all_below n s && all_below n t)
unfolding all_below
all_append n [] t = refl
all_append n (b ∷ s) t = rw (all_append n s t) (sym (and_assoc (ltb b n) (all_below n s) (all_below n t)))

-- ---- from place to place

-- past k bytes of the run from a place on, the rest of it follows
pub past : (s : List ℕ) (at k : ℕ) → k ≤ ascii_run (drop at s) → k + ascii_run (drop (at + k) s) ≡ ascii_run (drop at s)
past s at k h = rw (← drop-drop k at s) (run_drop k (drop at s) h)

-- k bytes were tested at once
pub tested : (s : List ℕ) (at k : ℕ) → at + k ≤ length s → all_below 0x80 (part s at k) ≡ true → k ≤ ascii_run (drop at s)
tested s at k h e = all-run k (drop at s) (omega (arith, length-drop at s)) e

-- a place in the run from `start` on, or at its end: what is left of it ends where it does
pub record InRun (s : List ℕ) (start at : ℕ) : Type 0 where
  pub within : at ≤ length s
  pub ends : at + ascii_run (drop at s) ≡ start + ascii_run (drop start s)

pub in-run : (s : List ℕ) (start : ℕ) → start ≤ length s → InRun s start start
in-run s start h = record { within = h; ends = refl }

-- its first byte is in it
pub run-begins : (s : List ℕ) (start : ℕ) → start < length s → get_or s start 0 < 0x80 → 1 ≤ ascii_run (drop start s)
run-begins s start h l =
    let e : start + 0 ≡ start = omega arith in
    run_more (drop start s) 0 (omega (arith, length-drop start s)) (rw (get_or-drop start s 0 0, e) l) (omega arith)

-- the byte behind the first is not ASCII: the run has one byte
pub run-of-one : (s : List ℕ) (start : ℕ) → start < length s → get_or s start 0 < 0x80 → 0x80 ≤ get_or s (start + 1) 0
    → 1 ≡ ascii_run (drop start s)
run-of-one s start h l g =
    omega (arith, run-begins s start h l, run-stops (drop start s) 1 (rw (get_or-drop start s 1 0) g))

module _ {s : List ℕ} {start at : ℕ} (r : InRun s start at) where
  -- past k bytes of it
  pub in-run-past : (k : ℕ) → k ≤ ascii_run (drop at s) → InRun s start (at + k)
  in-run-past k h = record { within = omega (arith, run-le (drop at s), length-drop at s); ends = omega (arith, r.ends, past s at k h) }

  -- it ends in the next k + 1 bytes: k of them tell where
  pub ends-among : (k : ℕ) → all_below 0x80 (part s at (k + 1)) ≡ false → at + ascii_run (part s at k) ≡ start + ascii_run (drop start s)
  ends-among k e =
      let short : ascii_run (drop at s) < k + 1 = not-all-run (k + 1) (drop at s) e in
      ap (λ (n : ℕ). at + n) (run_take k (drop at s) (omega arith)) ∙ r.ends

  -- so do all that are left
  pub ends-in-rest : at + ascii_run (part s at (length s - at)) ≡ start + ascii_run (drop start s)
  ends-in-rest =
      ap (λ (n : ℕ). at + n) (run_take (length s - at) (drop at s) (omega (arith, run-le (drop at s), length-drop at s))) ∙ r.ends

  -- the last k bytes of the list, which begin before it or there, are ASCII: it ends with the list
  pub ends-with-list : (k : ℕ) → k ≤ length s → length s ≤ at + k → all_below 0x80 (part s (length s - k) k) ≡ true
      → length s ≡ start + ascii_run (drop start s)
  ends-with-list k h l e =
      let p : ℕ = length s - k in
      let j : ℕ = at - p in
      let a : k ≤ ascii_run (drop p s) = tested s p k (omega arith) e in
      let b : j + ascii_run (drop (p + j) s) ≡ ascii_run (drop p s) = past s p j (omega (arith, r.within)) in
      let q : p + j ≡ at = omega arith in
      let c : j + ascii_run (drop at s) ≡ ascii_run (drop p s) = rw q at b in
      omega (arith, r.within, r.ends, run-le (drop at s), length-drop at s)
