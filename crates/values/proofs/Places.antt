-- The refusals of the value reader, and the rule of places: all but 6 name a place of the message, and 6 is at place 0. Assumes nothing.
use mathlib.Core.Path.{◌≡◌, refl, sym, ◌∙◌}
use mathlib.Core.Bool.{Bool, true, false, cond, ◌&&◌, ◌||◌, and-eq-true_iff, true≢false}
use mathlib.Core.List.{List, [], ◌∷◌}
use Prim.Native.Nat.{ℕ, zero, suc, ◌+◌}
use lib.Dec.{leb, ltb, eqb}
use lib.ListN.{length, get_or}
use native.Mathlib.Omega.{arith}
use borrow.Author.Tests.{eqb-true, leb-true, le-leb}
use Rattle.std.specs.Prelude.{Result, Ok, Err}
use Rattle.slices.specs.Parts.{part, reaches}
use Rattle.numbers.specs.declared.ReadError.{ReadError}
use Rattle.utf8.specs.Utf8.{utf8}
use Rattle.refusal.specs.Answer.{Answer, returned, refused, Refuses, Placed, has_place, among, told_at}
use Rattle.refusal.specs.declared.Refusal.TheVariants.{TooLong, ValueTruncated, TooDeep, InvalidUtf8, DuplicateKey, TrailingBytes}
use Rattle.markers.specs.Value.{Value, item, entry, list, dictionary, structure}
use Rattle.markers.specs.Marker.{marker_of, is_string}
use Rattle.markers.specs.declared.kind.Leaf.{Leaf}
use Rattle.markers.specs.declared.kind.Container.{Container}
use Rattle.markers.specs.declared.kind.Container.TheVariants as C
use Rattle.markers.specs.declared.marker.Kind.{Kind}
use Rattle.markers.specs.declared.marker.Kind.TheVariants as K
use Rattle.markers.specs.declared.marker.Marker.{Marker}
use Rattle.refusal.specs.declared.Fault.{Fault}
use Rattle.markers.specs.declared.extent.Extent.{Extent}
use Rattle.markers.specs.declared.extent.Span.{Span}
use Rattle.markers.specs.declared.extent.Extent.TheVariants as E
use Rattle.markers.specs.Extents.{size_at, on_size, leaf_span, as_leaf, leaf_extent, container_extent, kind_extent, missing, extent_at, key_kind_extent, key_extent_at, most_open}
use Rattle.bolt.specs.Limits.{most_bytes}
use Rattle.values.specs.Decode.{Parse, parsed, failed, and_then, mapped, leaf_value, is_text, leaf_at, items, repeats, key_of, key_at, entries, container_at, value_of, value_at, value_in, whole, message_of, answer_of, decode}
use Rattle.values.specs.Places.{value_fault, Claim}

-- ---- extents
abbrev Faulty : {A : Type 0} → Result A Fault → Type 0
Faulty r = Refuses value_fault (told_at r)

chosen : {A : Type 0} (b : Bool) (x y : Result A Fault) → Faulty x → Faulty y → Faulty (cond b x y)
chosen true x y p q = p
chosen false x y p q = q

on-size : {A : Type 0} (at : ℕ) (u : Result ℕ ReadError) (f : ℕ → Result A Fault) → ((n : ℕ) → Faulty (f n)) → Faulty (on_size at u f)
on-size at (Ok n) f h = h n
on-size at (Err why) f h = refl

module _ (s : List ℕ) (at : ℕ) (m : Marker) where
  leaf-span : Faulty (leaf_span s at m)
  unfolding leaf_span
  leaf-span = on-size at (size_at s at m) _ (λ n. chosen (reaches s (at + m.skip + m.width) n) _ _ tt refl)

  leaf-extent : (k : Leaf) → Faulty (leaf_extent s at k m)
  leaf-extent k = by (leaf_span s at m) leaf-span
    where
      by : (r : Result Span Fault) → Faulty r → Faulty (as_leaf k r)
      by (Ok p) h = tt
      by (Err fault) h = h

  container-extent : (k : Container) → Faulty (container_extent s at k m)
  unfolding container_extent
  container-extent k = on-size at (size_at s at m) _ (λ n. tt)

  kind-extent : (depth : ℕ) (k : Kind) → Faulty (kind_extent s depth at m k)
  kind-extent depth K.Reserved = refl
  kind-extent depth (K.Leaf k) = leaf-extent k
  kind-extent depth (K.Container k) = chosen (eqb depth 0) _ (container_extent s at k m) refl (container-extent k)

  key-kind-extent : (k : Kind) → Faulty (key_kind_extent s at m k)
  key-kind-extent K.Reserved = refl
  key-kind-extent (K.Leaf k) = chosen (is_string k) (leaf_span s at m) _ leaf-span refl
  key-kind-extent (K.Container k) = refl

module _ (s : List ℕ) (at : ℕ) where
  extent-placed : (depth : ℕ) → Faulty (extent_at s depth at)
  unfolding extent_at
  extent-placed depth =
      let m : Marker = marker_of (get_or s at 0) in
      chosen (ltb at (length s)) (kind_extent s depth at m m.kind) (Err (missing s)) (kind-extent s at m depth m.kind) refl

  key-extent-placed : Faulty (key_extent_at s at)
  unfolding key_extent_at
  key-extent-placed =
      let m : Marker = marker_of (get_or s at 0) in
      chosen (ltb at (length s)) (key_kind_extent s at m m.kind) (Err (missing s)) (key-kind-extent s at m m.kind) refl

-- ---- parses
abbrev FaultyParse : {A : Type 0} → Parse A → Type 0
FaultyParse g = Refuses value_fault (answer_of g)

picked : {A : Type 0} (b : Bool) (x y : Parse A) → FaultyParse x → FaultyParse y → FaultyParse (cond b x y)
picked true x y p q = p
picked false x y p q = q

and-then : {A B : Type 0} (g : Parse A) (f : A → ℕ → Parse B) → FaultyParse g → ((a : A) (p : ℕ) → FaultyParse (f a p))
    → FaultyParse (and_then g f)
and-then (parsed a end) f p h = h a end
and-then (failed why place) f p h = p

map-placed : {A B : Type 0} (f : A → B) (g : Parse A) → FaultyParse g → FaultyParse (mapped f g)
map-placed f (parsed a end) p = tt
map-placed f (failed why place) p = p

leaf-placed : (s : List ℕ) (at : ℕ) (k : Leaf) (p n : ℕ) → FaultyParse (leaf_at s at k p n)
unfolding leaf_at
leaf-placed s at k p n =
    picked (is_text k (part s p n)) (parsed (leaf_value s k p n) (p + n)) (failed InvalidUtf8 at) tt refl

key-of : (s : List ℕ) (seen : List (List ℕ)) (at : ℕ) (x : Result Span Fault) → Faulty x → FaultyParse (key_of s seen at x)
key-of s seen at (Ok k) h =
    picked (utf8 (part s k.start k.size)) _ (failed InvalidUtf8 at)
    (picked (repeats (part s k.start k.size) seen) (failed DuplicateKey at) _ refl tt) refl
key-of s seen at (Err fault) h = h

key-placed : (s : List ℕ) (seen : List (List ℕ)) (at : ℕ) → FaultyParse (key_at s seen at)
unfolding key_at
key-placed s seen at = key-of s seen at (key_extent_at s at) (key-extent-placed s at)

-- ---- what a container holds, where each value in it keeps the rule
module _ (s : List ℕ) (f : ℕ → Parse Value) (h : (p : ℕ) → FaultyParse (f p)) where
  items-placed : (n at : ℕ) → FaultyParse (items f n at)
  unfolding items
  items-placed zero at = tt
  items-placed (suc n) at =
      and-then (f at) (λ v p. mapped (item at v) (items f n p)) (h at) (λ v p. map-placed (item at v) (items f n p) (items-placed n p))

  entries-placed : (n : ℕ) (seen : List (List ℕ)) (at : ℕ) → FaultyParse (entries s f seen n at)
  unfolding entries
  entries-placed zero seen at = tt
  entries-placed (suc n) seen at =
      and-then (key_at s seen at) (λ k p. and_then (f p) (λ v q. mapped (entry at k.start k.content p v) (entries s f (k.content ∷ seen) n q)))
      (key-placed s seen at)
      (λ k p. and-then (f p) (λ v q. mapped (entry at k.start k.content p v) (entries s f (k.content ∷ seen) n q)) (h p)
      (λ v q. map-placed (entry at k.start k.content p v) (entries s f (k.content ∷ seen) n q) (entries-placed n (k.content ∷ seen) q)))

  container-placed : (at : ℕ) (k : Container) (p n : ℕ) → FaultyParse (container_at s f at k p n)
  container-placed at C.List p n = map-placed list (items f n p) (items-placed n p)
  container-placed at C.Dictionary p n = map-placed dictionary (entries s f [] n p) (entries-placed n [] p)
  container-placed at C.Structure p n =
      let fields : Parse Value = mapped (structure (get_or s p 0)) (items f n (p + 1)) in
      picked (ltb p (length s)) fields (failed ValueTruncated at) (map-placed (structure (get_or s p 0)) (items f n (p + 1)) (items-placed n (p + 1)))
      refl

  value-of : (at : ℕ) (x : Result Extent Fault) → Faulty x → FaultyParse (value_of s f at x)
  value-of at (Ok (E.Leaf k p n)) e = leaf-placed s at k p n
  value-of at (Ok (E.Container k p n)) e = container-placed at k p n
  value-of at (Err fault) e = e

value-placed : (s : List ℕ) (depth at : ℕ) → FaultyParse (value_at s depth at)
unfolding value_at
value-placed s zero at = value-of s (λ p. failed TooDeep p) (λ p. refl) at (extent_at s zero at) (extent-placed s at zero)
value-placed s (suc depth) at =
    value-of s (λ p. value_at s depth p) (λ p. value-placed s depth p) at (extent_at s (suc depth) at) (extent-placed s at (suc depth))

value-in-placed : (s : List ℕ) (depth at : ℕ) → FaultyParse (value_in s depth at)
unfolding value_in
value-in-placed s depth at =
    picked (ltb most_bytes (length s)) (failed TooLong 0) (value_at s depth at) refl (value-placed s depth at)

whole-placed : (size : ℕ) (g : Parse Value) → FaultyParse g → FaultyParse (whole size g)
whole-placed size (parsed v end) p = picked (eqb end size) (parsed v end) (failed TrailingBytes end) tt refl
whole-placed size (failed why place) p = p

faults : (s : List ℕ) → Refuses value_fault (decode s)
unfolding message_of
faults s = whole-placed (length s) (value_in s most_open 0) (value-in-placed s most_open 0)

-- these keep the rule
fault-placed : (number place : ℕ) → value_fault number place ≡ true → has_place number ≡ false → place ≡ 0
fault-placed number place f h = by (eqb number 6 && eqb place 0) refl f
  where
    by : (b : Bool) → (eqb number 6 && eqb place 0) ≡ b → (b || among 7 13 number) ≡ true → place ≡ 0
    by true e f = eqb-true place 0 ((and-eq-true_iff (eqb number 6) (eqb place 0)).0 e).1
    by false e f =
        let r = (and-eq-true_iff (leb 7 number) (leb number 13)).0 f in
        let low = leb-true 7 number r.0 in
        let high = leb-true number 13 r.1 in
        let there : has_place number ≡ true = rw (le-leb 7 number low, le-leb number 15 (omega arith)) in
        absurd (true≢false (sym there ∙ h))

placed : {A : Type 0} (a : Answer A) → Refuses value_fault a → Placed a
placed (returned a) f = tt
placed (refused number place) f = fault-placed number place f

pub places : Claim
places =
    record {
      faults = faults;
      message = λ s. placed (decode s) (faults s);
      value = λ s depth at. placed (answer_of (value_in s depth at)) (value-in-placed s depth at);
    }
