-- Laws of the walks: over the items of a List, and over the entries of a Dictionary. Assumes nothing.
use mathlib.Core.Path.{◌≡◌, refl, sym, ◌∙◌}
use mathlib.Core.List.{List}
use Prim.Native.Nat.{ℕ, suc, ◌+◌, ◌-◌, ◌≤◌, ◌<◌}
use native.Mathlib.Omega.{arith}
use lib.ListN.{set}
use Rattle.slices.specs.Parts.{part}
use Rattle.values.specs.Walk.{peek_at, skip_at}
use Rattle.entries.specs.Numbering.{names, index_of}
use Rattle.entries.specs.Walk.{string_found, wrong_from, nothing, noted_from}
use Rattle.std.specs.Prelude.{Option, Some, None}
use Rattle.markers.specs.declared.extent.Span.{Span}

-- ---- the items of a List: those from the i-th on decide
abbrev pub Wrong : List ℕ → ℕ → ℕ → ℕ → ℕ → Type 0
Wrong s count first i at = wrong_from s count first ≡ wrong_from s (count - i) at

module _ (s : List ℕ) (count first i at : ℕ) (so_far : Wrong s count first i at) where
  pub all-strings : count ≤ i → None ≡ wrong_from s count first
  unfolding wrong_from
  all-strings h = let z : count - i ≡ 0 = omega arith in sym (so_far ∙ rw z)

  module _ (h : i < count) where
    pub wrong-here : None ≡ string_found (peek_at s at) → Some at ≡ wrong_from s count first
    unfolding wrong_from
    wrong-here e = let z : count - i ≡ suc (count - (i + 1)) = omega arith in sym (so_far ∙ rw (z, ← e))

    pub wrong-later : (c : Span) → Some c ≡ string_found (peek_at s at) → Wrong s count first (i + 1) (c.start + c.size)
    unfolding wrong_from
    wrong-later c e = let z : count - i ≡ suc (count - (i + 1)) = omega arith in so_far ∙ rw (z, ← e)

-- ---- the entries of a Dictionary: with those from the i-th on, what is noted is what the whole walk notes
abbrev pub Noting : List ℕ → ℕ → ℕ → ℕ → ℕ → List ℕ → Type 0
Noting s count first i at found = noted_from s count first nothing ≡ noted_from s (count - i) at found

module _ (s : List ℕ) (count first i at : ℕ) (found : List ℕ) (so_far : Noting s count first i at found) where
  pub all_noted : count ≤ i → found ≡ noted_from s count first nothing
  unfolding noted_from
  all_noted h = let z : count - i ≡ 0 = omega arith in sym (so_far ∙ rw z)

  module _ (h : i < count) where
    pub no_key : None ≡ string_found (peek_at s at) → found ≡ noted_from s count first nothing
    unfolding noted_from
    no_key e = let z : count - i ≡ suc (count - (i + 1)) = omega arith in sym (so_far ∙ rw (z, ← e))

    module _ (key : Span) (e : Some key ≡ string_found (peek_at s at)) (number : ℕ) (f : number ≡ index_of (part s key.start key.size) names) where
      pub no_value : None ≡ skip_at s (key.start + key.size) → set found number (key.start + key.size) ≡ noted_from s count first nothing
      unfolding noted_from
      no_value g = let z : count - i ≡ suc (count - (i + 1)) = omega arith in sym (so_far ∙ rw (z, ← e, ← g, f))

      pub one-noted : (q : ℕ) → Some q ≡ skip_at s (key.start + key.size) → Noting s count first (i + 1) q (set found number (key.start + key.size))
      unfolding noted_from
      one-noted q g = let z : count - i ≡ suc (count - (i + 1)) = omega arith in so_far ∙ rw (z, ← e, ← g, f)

-- where the last value ends does not matter
pub last-noted : (s : List ℕ) (count first i at : ℕ) (found : List ℕ) → Noting s count first i at found → i + 1 ≡ count
    → (key : Span) → Some key ≡ string_found (peek_at s at) → (number : ℕ) → number ≡ index_of (part s key.start key.size) names
    → set found number (key.start + key.size) ≡ noted_from s count first nothing
last-noted s count first i at found so_far l key e number f = by (skip_at s (key.start + key.size)) refl
  where
    by : (k : Option ℕ) → skip_at s (key.start + key.size) ≡ k → set found number (key.start + key.size) ≡ noted_from s count first nothing
    by None g = no_value s count first i at found so_far (omega arith) key e number f (sym g)
    by (Some q) g = all_noted s count first (i + 1) q _ (one-noted s count first i at found so_far (omega arith) key e number f q (sym g)) (omega arith)
