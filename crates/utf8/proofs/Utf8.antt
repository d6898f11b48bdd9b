-- Laws of UTF-8 as one sequence after another: what the check's loop and the layers above go by. Assumes nothing.
use mathlib.Core.Path.{◌≡◌, refl, sym, ap, ◌∙◌}
use mathlib.Core.Bool.{true, false, cond}
use mathlib.Core.List.{List, [], ◌∷◌}
use Prim.Native.Nat.{ℕ, zero, suc, ◌+◌, ◌-◌, ◌≤◌, ◌<◌}
use native.Mathlib.Nat.{not-suc-le-zero}
use native.Mathlib.Omega.{arith}
use Rattle.std.specs.Prelude.{Option, Some, None}
use lib.ListN.{length, get_or, drop, length-drop, drop_of_length-le}
use lib.Seq.{drop-drop, get_or-drop}
use Rattle.utf8.specs.Utf8.{sequence, sequences_from, utf8}
use Rattle.utf8.specs.Private.Ascii.{ascii_run}
use Rattle.utf8.proofs.Runs.{ascii-or-not, run-le, run_end}
use Rattle.utf8.proofs.Sequences.{at_place, sequence-ascii, sequence-size}

-- no bytes
pub utf8_nil : utf8 [] ≡ true
unfolding utf8 sequences_from
utf8_nil = refl

-- a fault
pub utf8-fault : (lead : ℕ) (s : List ℕ) → sequence lead s ≡ None → utf8 (lead ∷ s) ≡ false
unfolding utf8 sequences_from
utf8-fault lead s e = ap (λ (o : Option ℕ). elim o [ Some m ↦ sequences_from (m - 1) s | None ↦ false ]) e

-- a sequence: what follows it decides
pub utf8-cons : (lead : ℕ) (s : List ℕ) (n : ℕ) → sequence lead s ≡ Some n → utf8 (lead ∷ s) ≡ utf8 (drop (n - 1) s)
unfolding utf8 sequences_from
utf8-cons lead s n e =
    ap (λ (o : Option ℕ). elim o [ Some m ↦ sequences_from (m - 1) s | None ↦ false ]) e ∙ skipped (n - 1) s
  where
    skipped : (skip : ℕ) (t : List ℕ) → sequences_from skip t ≡ utf8 (drop skip t)
    skipped zero [] = refl
    skipped zero (b ∷ t) = refl
    skipped (suc skip) [] = refl
    skipped (suc skip) (b ∷ t) = skipped skip t

-- an ASCII byte: what follows it decides
pub utf8-ascii-cons : (b : ℕ) (s : List ℕ) → b < 0x80 → utf8 (b ∷ s) ≡ utf8 s
utf8-ascii-cons b s h = utf8-cons b s 1 (sequence-ascii b s h)

-- past a part of a run of ASCII, what follows decides
utf8-run : (k : ℕ) (s : List ℕ) → k ≤ ascii_run s → utf8 (drop k s) ≡ utf8 s
unfolding ascii_run
utf8-run zero s h = refl
utf8-run (suc k) [] h = refl
utf8-run (suc k) (b ∷ s) h =
    ascii-or-not (λ t. suc k ≤ cond t (suc (ascii_run s)) 0 → utf8 (drop k s) ≡ utf8 (b ∷ s)) b
    (λ l g. utf8-run k s (omega arith) ∙ sym (utf8-ascii-cons b s l)) (λ l g. absurd (not-suc-le-zero g)) h

-- ---- the check's loop

-- up to a place there are whole sequences: what is left decides as the whole does
pub record Checked (s : List ℕ) (at : ℕ) : Type 0 where
  pub within : at ≤ length s
  pub decides : utf8 (drop at s) ≡ utf8 s

-- there a sequence of several bytes has to begin
pub record Leads (s : List ℕ) (at : ℕ) : Type 0 where
  pub before : Checked s at
  pub inside : at < length s
  pub high : 0x80 ≤ get_or s at 0

-- at the start
pub checked : (s : List ℕ) → Checked s 0
checked s = record { within = omega arith; decides = refl }

module _ {s : List ℕ} {at : ℕ} (r : Checked s at) where
  -- nothing is left
  pub all-checked : length s ≤ at → true ≡ utf8 s
  all-checked h = sym (ap utf8 (drop_of_length-le s h) ∙ utf8_nil) ∙ r.decides

  -- past the run of ASCII from there on
  pub past-run : Checked s (at + ascii_run (drop at s))
  past-run =
      let n : ℕ = ascii_run (drop at s) in
      record {
        within = omega (arith, r.within, run-le (drop at s), length-drop at s);
        decides = ap utf8 (sym (drop-drop n at s)) ∙ utf8-run n (drop at s) (omega arith) ∙ r.decides;
      }

  -- which ends before the bytes do
  pub leads-past-run : at + ascii_run (drop at s) < length s → Leads s (at + ascii_run (drop at s))
  leads-past-run h = record {
    before = past-run;
    inside = h;
    high = rw (← get_or-drop at s (ascii_run (drop at s)) 0) (run_end (drop at s) (omega (arith, length-drop at s)));
  }

  module _ (h : at < length s) where
    -- no sequence begins there
    pub at-fault : None ≡ sequence (get_or s at 0) (drop (at + 1) s) → false ≡ utf8 s
    at-fault e = sym (ap utf8 (at_place s at h) ∙ utf8-fault (get_or s at 0) (drop (at + 1) s) (sym e)) ∙ r.decides

    -- the next sequence has n bytes
    module _ (n : ℕ) (e : Some n ≡ sequence (get_or s at 0) (drop (at + 1) s)) where
      pub has-bytes : 1 ≤ n
      has-bytes = (sequence-size (get_or s at 0) (drop (at + 1) s) n (sym e)).0

      pub past-sequence : Checked s (at + n)
      past-sequence =
          let sum : at + 1 + (n - 1) ≡ at + n = omega (arith, has-bytes) in
          record {
            within = omega (arith, (sequence-size (get_or s at 0) (drop (at + 1) s) n (sym e)).1, length-drop (at + 1) s);
            decides =
                sym (ap utf8 (at_place s at h) ∙ utf8-cons (get_or s at 0) (drop (at + 1) s) n (sym e) ∙ ap utf8 (drop-drop (n - 1) (at + 1) s)
                ∙ ap (λ (m : ℕ). utf8 (drop m s)) sum)
                ∙ r.decides;
          }
