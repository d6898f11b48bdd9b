-- A block that is handed over portion by portion: what is left of it gives the rest. Assumes nothing.
use mathlib.Core.Path.{◌≡◌, refl, sym, ap, ◌∙◌}
use mathlib.Core.List.{List, []}
use Prim.Native.Nat.{ℕ, ◌+◌, ◌-◌, ◌/◌, ◌≤◌, ◌<◌}
use native.Mathlib.Omega.{arith}
use lib.ListN.{length, take, drop, length-drop, length-append, drop_of_length-le}
use lib.Seq.{drop-drop, take-append_seam}
use Rattle.slices.specs.Parts.{front}
use Rattle.lines.specs.Blocks.{Cut, cut}
use Rattle.lines.proofs.Blocks.{joined, cut-append, lines_rest, lines-some, lines-inside}
use Rattle.session.specs.Room.{enough}
use Rattle.run.specs.Run.{Progress, after_lines, portion}
use Rattle.run.proofs.Feeding.{after-append, part-rest, GivesAll}

-- so much of the block is handed over: what it gives is what is left of it gives
pub record Passing (p₀ : Progress) (c₀ : Cut) (block : List ℕ) (p : Progress) (most : ℕ) (begun : List ℕ) (from : ℕ) : Type 0 where
  pub inside : from ≤ length block
  pub goes : after_lines p₀ c₀.ended ≡ after_lines p (cut most begun (drop from block)).ended
  pub holds : c₀.begun ≡ (cut most begun (drop from block)).begun

pub passing-none : (p : Progress) (most : ℕ) (begun block : List ℕ) → Passing p (cut most begun block) block p most begun 0
passing-none p most begun block = record { inside = omega arith; goes = refl; holds = refl }

-- what was written lies inside the output
pub written-fits : (o out out' : List ℕ) {n : ℕ} → n ≡ length o → out' ≡ front o out → n ≤ length out'
written-fits o out out' e f = omega (arith, e, ap length f, length-append o (drop (length o) out))

module _ (p₀ : Progress) (c₀ : Cut) (block : List ℕ) (p : Progress) (held : List ℕ) (begun from : ℕ) (w : Passing p₀ c₀ block p (length held) (take begun held) from) where
  module _ (out : List ℕ) {p' : Progress} {begun' taken size : ℕ} {held' out' : List ℕ}
      (g : GivesAll p held begun out (take (length block - from) (drop from block)) p' begun' taken size held' out') where
    abbrev s : List ℕ
    s = drop from block

    g' : GivesAll p held begun out s p' begun' taken size held' out'
    g' = rw (part-rest from block) at g

    abbrev t : List ℕ
    t = portion (length out) s

    abbrev first : Cut
    first = cut (length held) (take begun held) t

    begun-is : take begun' held' ≡ first.begun
    begun-is = (λ i. take (g'.1.0 i) (g'.1.1.1.1.0 i)) ∙ take-append_seam first.begun _

    rest-is : drop (from + taken) block ≡ drop (length t) s
    rest-is = sym (drop-drop taken from block) ∙ ap (λ (n : ℕ). drop n s) g'.1.1.0

    abbrev later : Cut
    later = cut (length held) first.begun (drop (length t) s)

    both : cut (length held) (take begun held) s ≡ joined first later
    both = ap (cut (length held) (take begun held)) (lines_rest (length out / enough) s) ∙ cut-append (length held) (take begun held) t (drop (length t) s)

    later-is : length held' ≡ length held → cut (length held') (take begun' held') (drop (from + taken) block) ≡ later
    later-is k = λ i. cut (k i) (begun-is i) (rest-is i)

    pub passing-inside : from + taken ≤ length block
    passing-inside = omega (arith, w.inside, g'.1.1.0, lines-inside (length out / enough) s, length-drop from block)

    -- something is taken
    pub passing-more : enough ≤ length out → from < length block → 1 ≤ taken
    passing-more r h = omega (arith, g'.1.1.0, lines-some (length out / enough) s (omega (arith, r)) (omega (arith, h, length-drop from block)))

    pub passing-next : length held' ≡ length held → Passing p₀ c₀ block p' (length held') (take begun' held') (from + taken)
    passing-next k = record {
      inside = passing-inside;
      goes = w.goes ∙ ap (λ (c : Cut). after_lines p c.ended) both ∙ after-append p first.ended later.ended ∙ (λ i. after_lines (sym g'.0 i) (sym (later-is k) i).ended);
      holds = w.holds ∙ ap (λ (c : Cut). c.begun) both ∙ ap (λ (c : Cut). c.begun) (sym (later-is k));
    }

  -- nothing is left
  pub passing-done : length block ≤ from → (p ≡ after_lines p₀ c₀.ended) × (take begun held ≡ c₀.begun)
  unfolding cut after_lines
  passing-done h =
      let z : drop from block ≡ [] = drop_of_length-le block h in (
        sym (w.goes ∙ ap (λ (l : List ℕ). after_lines p (cut (length held) (take begun held) l).ended) z),
        sym (w.holds ∙ ap (λ (l : List ℕ). (cut (length held) (take begun held) l).begun) z),
      )
