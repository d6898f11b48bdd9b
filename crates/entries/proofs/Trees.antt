-- Where a value that was read lies, what is found there is what its tree says. Assumes nothing.
use mathlib.Core.Path.{◌≡◌, refl, sym, ap, ◌∙◌}
use mathlib.Core.Bool.{cond}
use mathlib.Core.List.{List}
use Prim.Native.Nat.{ℕ, ◌+◌, ◌-◌, ◌≤◌}
use native.Mathlib.Omega.{arith}
use lib.ListN.{length}
use Rattle.markers.specs.Value.{Value, null, boolean, integer, float, bytes, string, list, dictionary, structure, Items, no_items, item, count, first}
use Rattle.markers.specs.Extents.{most_open}
use Rattle.values.specs.Reading.{head_of}
use Rattle.values.specs.Walk.{peek_at}
use Rattle.values.specs.Private.Placement.{Reads, ItemsLie, PartsLie}
use Rattle.values.proofs.Placement.{placement}
use Rattle.entries.specs.View.{is_string, wrong_in, mode_named, view_of}
use Rattle.entries.specs.Walk.{string_head, string_found, wrong_from, view_head}
use Rattle.std.specs.Prelude.{Option, Some, None, option_and_then}
use Rattle.std.specs.Option.{option_map_or}
use Rattle.markers.specs.Extents.{span}
use Rattle.markers.specs.declared.extent.Span.{Span}
use Rattle.entries.specs.declared.view.View.TheVariants as As

-- the content of a String
abbrev pub text_of : Value → Option Span
text_of null = None
text_of (boolean b) = None
text_of (integer z) = None
text_of (float bits) = None
text_of (bytes start content) = None
text_of (string start content) = Some (span start (length content))
text_of (list vs) = None
text_of (dictionary es) = None
text_of (structure tag vs) = None

text-of-head : (v : Value) (end : ℕ) → string_head (head_of v end) ≡ text_of v
unfolding head_of
text-of-head null end = refl
text-of-head (boolean b) end = refl
text-of-head (integer z) end = refl
text-of-head (float bits) end = refl
text-of-head (bytes start content) end = refl
text-of-head (string start content) end = refl
text-of-head (list vs) end = refl
text-of-head (dictionary es) end = refl
text-of-head (structure tag vs) end = refl

module _ (s : List ℕ) (d : ℕ) (shallow : d ≤ most_open) where
  pub text-there : (at : ℕ) (v : Value) (end : ℕ) → Reads s d at v end → string_found (peek_at s at) ≡ text_of v
  text-there at v end r = ap string_found (sym (placement s d at shallow v end r).peeked) ∙ text-of-head v end

  -- ---- Lists of Strings
  -- past a String, or at what is none
  step : (at : ℕ) (v : Value) (end : ℕ) (f : ℕ → Option ℕ) → PartsLie s d v end
      → option_map_or (λ c. f (c.start + c.size)) (text_of v) (Some at) ≡ cond (is_string v) (f end) (Some at)
  step at null end f p = refl
  step at (boolean b) end f p = refl
  step at (integer z) end f p = refl
  step at (float bits) end f p = refl
  step at (bytes start content) end f p = refl
  step at (string start content) end f p = ap f p.ends
  step at (list vs) end f p = refl
  step at (dictionary es) end f p = refl
  step at (structure tag vs) end f p = refl

  pub wrong-there : (vs : Items) (at end : ℕ) → ItemsLie s d at vs end → wrong_from s (count vs) at ≡ wrong_in vs
  unfolding ItemsLie wrong_from wrong_in count
  wrong-there no_items at end lie = refl
  wrong-there (item place v vs) at end lie =
      let next = lie.1 in
      let r = lie.2 in
      let here = placement s d at shallow v next r in
      ap (λ (t : Option Span). option_map_or (λ c. wrong_from s (count vs) (c.start + c.size)) t (Some at)) (text-there at v next r)
      ∙ step at v next (wrong_from s (count vs)) here.parts
      ∙ rw (wrong-there vs next end lie.3, lie.0)

-- ---- views
module _ (s : List ℕ) (d : ℕ) (shallow : d ≤ most_open) where
  view-of-head : (v : Value) (end : ℕ) → PartsLie s d v end → view_head s (head_of v end) ≡ view_of v
  unfolding head_of
  view-of-head null end p = refl
  view-of-head (boolean b) end p = refl
  view-of-head (integer z) end p = refl
  view-of-head (float bits) end p = refl
  view-of-head (bytes start content) end p = refl
  view-of-head (string start content) end p = ap (λ (c : List ℕ). Some (As.String (span start (length content)) (mode_named c))) p.bytes
  view-of-head (list vs) end p = ap (λ (w : Option ℕ). Some (As.List w)) (wrong-there s (d - 1) (omega arith) vs (first vs end) end p)
  view-of-head (dictionary es) end p = refl
  view-of-head (structure tag vs) end p = refl

  pub view-there : (at : ℕ) (v : Value) (end : ℕ) → Reads s d at v end → option_and_then (view_head s) (peek_at s at) ≡ view_of v
  view-there at v end r =
      let here = placement s d at shallow v end r in
      ap (option_and_then (view_head s)) (sym here.peeked) ∙ view-of-head v end here.parts
