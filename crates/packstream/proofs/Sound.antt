-- What is read can be packed. Assumes nothing.
use mathlib.Core.Path.{◌≡◌, refl, sym, ap, ◌∙◌, subst}
use mathlib.Core.Logic.{◌⊎◌, inl, inr, ⊎_elim}
use mathlib.Core.Bool.{Bool, true, false, true≢false, false≢true, cond, not, ◌&&◌, ◌||◌, and-eq-true_iff}
use mathlib.Core.List.{List, [], ◌∷◌}
use Prim.Native.Nat.{ℕ, zero, suc, ◌+◌, ◌^◌, ◌≤◌, ◌<◌}
use native.Mathlib.Omega.{arith}
use borrow.Author.Tests.{lt-ltb, leb-true, eq-eqb, eqb-true, not-true}
use lib.Dec.{ltb, leb, eqb}
use lib.IntN.{ℤ}
use lib.ListN.{length, get_or}
use Rattle.slices.specs.Parts.{part}
use Rattle.slices.specs.Equality.{same}
use Rattle.slices.proofs.Parts.{bytes-part, length_part}
use Rattle.slices.proofs.Below.{below}
use Rattle.numbers.specs.BigEndian.{big_endian, holds, Bytes}
use Rattle.numbers.specs.TwosComplement.{twos, fits_in}
use Rattle.numbers.specs.Access.{unsigned_at}
use Rattle.std.specs.Prelude.{Result, Ok, Err}
use Rattle.refusal.specs.declared.Fault.{Fault}
use Rattle.markers.specs.declared.extent.Span.{Span}
use Rattle.numbers.proofs.BigEndian.{big_lt, pow256-mono}
use Rattle.numbers.proofs.TwosComplement.{fits-yes, fits_lt, twos-fits}
use Rattle.numbers.proofs.Access.{unsigned-found, lies-lt, width-most}
use Rattle.utf8.specs.Utf8.{utf8}
use Rattle.refusal.specs.Answer.{returned}
use Rattle.refusal.specs.declared.Refusal.TheVariants.{TooDeep}
use Rattle.markers.specs.Value.{Value, list, dictionary, structure, Items, item, count, Entries, no-entries, entry, count_entries}
use Rattle.markers.specs.Marker.{lookup, marker_of}
use Rattle.markers.specs.Extents.{extent_at, key_extent_at, most_open}
use Rattle.markers.specs.declared.kind.Leaf.{Leaf}
use Rattle.markers.specs.declared.kind.Leaf.TheVariants as L
use Rattle.markers.specs.declared.kind.Container.{Container}
use Rattle.markers.specs.declared.kind.Container.TheVariants as C
use Rattle.markers.specs.declared.marker.Kind.{Kind}
use Rattle.markers.specs.declared.marker.Kind.TheVariants as K
use Rattle.markers.specs.declared.marker.Marker.{Marker}
use Rattle.markers.specs.declared.extent.Extent.{Extent}
use Rattle.markers.specs.declared.extent.Extent.TheVariants as E
use Rattle.markers.proofs.Extents.{Inside, SpanInside, LeafInside, extent-inside, key-inside, Shut, no_room}
use Rattle.bolt.specs.Limits.{most_bytes}
use Rattle.values.specs.Decode.{Parse, parsed, failed, is_text, leaf_value, leaf_at, items, repeats, KeyText, key_of, key_at, entries, container_at, value_of, value_at, decode}
use Rattle.packing.specs.Packing.{pack}
use Rattle.packstream.specs.RoundTrip.{valid_text, packable, packable_items, packable_entries, located}
use Rattle.packstream.specs.Sound.{Unlike, Distinct, Claim}
use Rattle.packstream.proofs.Headers.{Header, by-test, Headed, KeyHeaded, headed, key-headed}
use Rattle.packstream.proofs.Ends.{Ends, ends-then, ends-mapped, decoded}
use Rattle.packstream.proofs.RoundTrip.{round_trip}
use Rattle.packstream.proofs.Shortest.{shortest}

-- ---- sizes
-- the most bytes that a size of this kind has behind its marker
abbrev widest : Kind → ℕ
widest K.Reserved = 0
widest (K.Leaf k) = 4
widest (K.Container C.List) = 4
widest (K.Container C.Dictionary) = 4
widest (K.Container C.Structure) = 0

-- a size in the marker is below 16, and one behind it has no more bytes than that
gives : Marker → Bool
gives m = leb m.width (widest m.kind) && leb m.size 15

marker-gives : (b : ℕ) → b < 256 → gives (marker_of b) ≡ true
unfolding gives marker_of lookup
marker-gives b h = below (λ b. gives (marker_of b)) 256 refl b h

module _ (s : List ℕ) (bs : Bytes s) (at n p : ℕ) where
  size_below : {k : Kind} → Header s at k n p → (n < 16) ⊎ (n < 256 ^ widest k)
  unfolding gives
  size_below {k} h = by (eqb m.width 0) refl h.size
    where
      m : Marker
      m = h.marker

      given : (leb m.width (widest k) ≡ true) × (leb m.size 15 ≡ true)
      given =
          (and-eq-true_iff (leb m.width (widest k)) (leb m.size 15)).0
          (subst (λ (j : Kind). (leb m.width (widest j) && leb m.size 15) ≡ true) h.kind
          (subst (λ (w : Marker). gives w ≡ true) h.is (marker-gives (get_or s at 0) (bs at))))

      by : (b : Bool) → eqb m.width 0 ≡ b → cond b (Ok m.size) (unsigned_at s (at + m.skip) m.width) ≡ Ok n
          → (n < 16) ⊎ (n < 256 ^ widest k)
      by true e f = let g : m.size ≡ n = cc f in inl (omega (arith, leb-true m.size 15 given.1))
      by false e f =
          let u = unsigned-found s (at + m.skip) m.width n (sym f) in
          let l = lies-lt s (at + m.skip) m.width bs u.1 in
          inr (omega (arith, u.0, pow256-mono m.width (widest k) (leb-true m.width (widest k) given.0)))

  size_holds : {k : Kind} → widest k ≤ 4 → Header s at k n p → holds 4 n ≡ true
  size_holds {k} w h =
      lt-ltb n (256 ^ 4)
      (⊎_elim (λ (l : n < 16). low l) (λ (l : n < 256 ^ widest k). high l) (size_below h))
    where
      low : n < 16 → n < 256 ^ 4
      low l = omega arith

      high : n < 256 ^ widest k → n < 256 ^ 4
      high l = omega (arith, pow256-mono (widest k) 4 w)

  fields-below : Header s at (K.Container C.Structure) n p → ltb n 16 ≡ true
  fields-below h = lt-ltb n 16 (⊎_elim (λ (l : n < 16). l) (λ (l : n < 256 ^ 0). few l) (size_below h))
    where
      few : n < 256 ^ 0 → n < 16
      few l = omega arith

-- ---- leaves
both : (a b : Bool) → a ≡ true → b ≡ true → (a && b) ≡ true
both a b p q = rw (p, q) refl

fits_wider : (k : ℕ) (z : ℤ) → k ≤ 8 → fits_in k z ≡ true → fits_in 8 z ≡ true
fits_wider k z l f = fits-yes 8 z (omega (arith, fits_lt k z f, pow256-mono k 8 l))

module _ (s : List ℕ) (bs : Bytes s) (at n p : ℕ) where
  number_lt : p + n ≤ length s → big_endian (part s p n) < 256 ^ n
  number_lt i = subst (λ (j : ℕ). big_endian (part s p n) < 256 ^ j) (length_part s p n i) (big_lt (part s p n) (bytes-part s p n bs))

  text-packable : Header s at (K.Leaf L.String) n p → p + n ≤ length s → utf8 (part s p n) ≡ true → valid_text (part s p n) ≡ true
  text-packable h i t =
      both (holds 4 (length (part s p n))) (utf8 (part s p n)) (rw (length_part s p n i) (size_holds s bs at n p (omega arith) h)) t

  leaf-packable : (depth : ℕ) (k : Leaf) → Header s at (K.Leaf k) n p → LeafInside s at k p n → is_text k (part s p n) ≡ true
      → packable depth (leaf_value s k p n) ≡ true
  unfolding leaf_value packable
  leaf-packable depth L.Null h i t = refl
  leaf-packable depth L.Boolean h i t = refl
  leaf-packable depth L.Integer h i t =
      fits_wider n (twos n (big_endian (part s p n))) (width-most n i.sized) (twos-fits n (big_endian (part s p n)) (number_lt i.inside))
  leaf-packable depth L.Float h i t =
      let e : n ≡ 8 = eqb-true n 8 i.sized in
      lt-ltb (big_endian (part s p n)) (256 ^ 8) (subst (λ (j : ℕ). big_endian (part s p n) < 256 ^ j) e (number_lt i.inside))
  leaf-packable depth L.Bytes h i t = rw (length_part s p n i.inside) (size_holds s bs at n p (omega arith) h)
  leaf-packable depth L.String h i t = text-packable h i.inside t

-- ---- what is read
abbrev Packable : ℕ → Value → ℕ → Type 0
Packable depth v end = packable depth v ≡ true

-- a key that is text and that none of those before it is
abbrev NewKey : List (List ℕ) → KeyText → ℕ → Type 0
NewKey seen k end = (valid_text k.content && not (repeats k.content seen)) ≡ true

abbrev PackableItems : ℕ → ℕ → Items → ℕ → Type 0
PackableItems depth n vs end = (count vs ≡ n) × (packable_items depth vs ≡ true)

abbrev PackableEntries : ℕ → List (List ℕ) → ℕ → Entries → ℕ → Type 0
PackableEntries depth seen n es end = (count_entries es ≡ n) × (packable_entries depth seen es ≡ true)

module _ (s : List ℕ) (bs : Bytes s) where
  key-packable : (seen : List (List ℕ)) (at : ℕ) → Ends (key_at s seen at) (NewKey seen)
  unfolding key_at
  key-packable seen at = by (key_extent_at s at) (key-headed s at) (key-inside s at)
    where
      by : (x : Result Span Fault) → KeyHeaded s at x → SpanInside s at L.String x → Ends (key_of s seen at x) (NewKey seen)
      by (Ok k) h i =
          let key = part s k.start k.size in
          by-test (λ y. Ends y (NewKey seen)) (utf8 key) _ _
          (λ t. by-test (λ y. Ends y (NewKey seen)) (repeats key seen) _ _ (λ r. tt)
          (λ r. both (valid_text key) (not (repeats key seen)) (text-packable s bs at k.size k.start h i.inside t) (ap not r)))
          (λ t. tt)
      by (Err fault) h i = tt

  -- f reads what a container holds
  module _ (depth : ℕ) (f : ℕ → Parse Value) (sound : (at : ℕ) → Ends (f at) (Packable depth)) where
    items-packable : (n at : ℕ) → Ends (items f n at) (PackableItems depth n)
    unfolding items count packable_items
    items-packable zero at = (refl, refl)
    items-packable (suc n) at =
        ends-then (PackableItems depth (suc n)) (f at) _ (sound at) (λ v p a.
        ends-mapped (PackableItems depth (suc n)) (item at v) (items f n p) (items-packable n p) (λ vs end (c, b).
        (ap suc c, both (packable depth v) (packable_items depth vs) a b)))

    entries-packable : (seen : List (List ℕ)) (n at : ℕ) → Ends (entries s f seen n at) (PackableEntries depth seen n)
    unfolding entries count_entries packable_entries
    entries-packable seen zero at = (refl, refl)
    entries-packable seen (suc n) at =
        ends-then (PackableEntries depth seen (suc n)) (key_at s seen at) _ (key-packable seen at) (λ key p k.
        ends-then (PackableEntries depth seen (suc n)) (f p) _ (sound p) (λ v q a.
        ends-mapped (PackableEntries depth seen (suc n)) (entry at key.start key.content p v) (entries s f (key.content ∷ seen) n q)
        (entries-packable (key.content ∷ seen) n q) (λ es end (c, b). (
          ap suc c,
          both (valid_text key.content && not (repeats key.content seen)) (packable depth v && packable_entries depth (key.content ∷ seen) es) k
              (both (packable depth v) (packable_entries depth (key.content ∷ seen) es) a b),
        ))))

    container-packable : (k : Container) (at p n : ℕ) → Header s at (K.Container k) n p → Ends (container_at s f at k p n) (Packable (suc depth))
    unfolding packable
    container-packable C.List at p n h =
        ends-mapped (Packable (suc depth)) list (items f n p) (items-packable n p) (λ vs end (c, b).
        both (holds 4 (count vs)) (packable_items depth vs) (rw c (size_holds s bs at n p (omega arith) h)) b)
    container-packable C.Dictionary at p n h =
        ends-mapped (Packable (suc depth)) dictionary (entries s f [] n p) (entries-packable [] n p) (λ es end (c, b).
        both (holds 4 (count_entries es)) (packable_entries depth [] es) (rw c (size_holds s bs at n p (omega arith) h)) b)
    container-packable C.Structure at p n h =
        by-test (λ y. Ends y (Packable (suc depth))) (ltb p (length s)) _ _
        (λ t. ends-mapped (Packable (suc depth)) (structure (get_or s p 0)) (items f n (p + 1)) (items-packable n (p + 1)) (λ vs end (c, b).
        both (ltb (count vs) 16) (packable_items depth vs) (rw c (fields-below s bs at n p h)) b))
        (λ t. tt)

  leaf-ends : (depth at : ℕ) (k : Leaf) (p n : ℕ) → Header s at (K.Leaf k) n p → LeafInside s at k p n → Ends (leaf_at s at k p n) (Packable depth)
  unfolding leaf_at
  leaf-ends depth at k p n h i =
      by-test (λ y. Ends y (Packable depth)) (is_text k (part s p n)) _ _ (λ t. leaf-packable s bs at n p depth k h i t) (λ t. tt)

  -- with no room left, every container is refused
  shut-packable : (at : ℕ) → Ends (value_of s (λ p. failed TooDeep p) at (extent_at s zero at)) (Packable zero)
  shut-packable at = by (extent_at s zero at) (headed s at zero) (extent-inside s at zero) (no_room s at)
    where
      by : (x : Result Extent Fault) → Headed s at x → Inside s at x → Shut x → Ends (value_of s (λ p. failed TooDeep p) at x) (Packable zero)
      by (Ok (E.Leaf k p n)) h i c = leaf-ends zero at k p n h i
      by (Ok (E.Container k p n)) h i c = absurd c
      by (Err fault) h i c = tt

  open-packable : (depth : ℕ) (f : ℕ → Parse Value) → ((at : ℕ) → Ends (f at) (Packable depth)) → (at : ℕ)
      → Ends (value_of s f at (extent_at s (suc depth) at)) (Packable (suc depth))
  open-packable depth f sound at = by (extent_at s (suc depth) at) (headed s at (suc depth)) (extent-inside s at (suc depth))
    where
      by : (x : Result Extent Fault) → Headed s at x → Inside s at x → Ends (value_of s f at x) (Packable (suc depth))
      by (Ok (E.Leaf k p n)) h i = leaf-ends (suc depth) at k p n h i
      by (Ok (E.Container k p n)) h i = container-packable depth f sound k at p n h
      by (Err fault) h i = tt

  value-packable : (depth at : ℕ) → Ends (value_at s depth at) (Packable depth)
  unfolding value_at
  value-packable zero at = shut-packable at
  value-packable (suc depth) at = open-packable depth (λ p. value_at s depth p) (λ p. value-packable depth p) at

-- ---- keys
same-itself : (l : List ℕ) → same l l ≡ true
unfolding same
same-itself [] = refl
same-itself (b ∷ l) = both (eqb b b) (same l l) (eq-eqb b b refl) (same-itself l)

or-false : (a b : Bool) → (a || b) ≡ false → (a ≡ false) × (b ≡ false)
or-false true b e = absurd (true≢false e)
or-false false b e = (refl, e)

-- a key that repeats none of those seen is not k
abbrev Seen : List ℕ → List (List ℕ) → Type 0
Seen k seen = (key : List ℕ) → repeats key seen ≡ false → key ≡ k → ⊥

seen-now : (k : List ℕ) (seen : List (List ℕ)) → Seen k (k ∷ seen)
unfolding repeats
seen-now k seen key r e =
    let f : same k key ≡ false = (or-false (same k key) (repeats key seen) r).0 in
    true≢false (sym (same-itself k) ∙ ap (same k) (sym e) ∙ f)

seen-before : (k j : List ℕ) (seen : List (List ℕ)) → Seen k seen → Seen k (j ∷ seen)
unfolding repeats
seen-before k j seen h key r e = h key (or-false (same j key) (repeats key seen) r).1 e

-- what packable entries tell of the first of them
module _ (depth : ℕ) (seen : List (List ℕ)) (key : List ℕ) (v : Value) (es : Entries) where
  abbrev rest : Bool
  rest = packable depth v && packable_entries depth (key ∷ seen) es

  first-new : ((valid_text key && not (repeats key seen)) && rest) ≡ true → (repeats key seen ≡ false) × (packable_entries depth (key ∷ seen) es ≡ true)
  first-new p =
      let a = (and-eq-true_iff (valid_text key && not (repeats key seen)) rest).0 p in (
        not-true (repeats key seen) ((and-eq-true_iff (valid_text key) (not (repeats key seen))).0 a.0).1,
        ((and-eq-true_iff (packable depth v) (packable_entries depth (key ∷ seen) es)).0 a.1).1,
      )

unlike : (es : Entries) (depth : ℕ) (seen : List (List ℕ)) (k : List ℕ) → Seen k seen → packable_entries depth seen es ≡ true → Unlike k es
unfolding packable_entries Unlike
unlike no-entries depth seen k h p = tt
unlike (entry at start key place v es) depth seen k h p =
    let f = first-new depth seen key v es p in
    (h key f.0, unlike es depth (key ∷ seen) k (seen-before k key seen h) f.1)

distinct : (es : Entries) (depth : ℕ) (seen : List (List ℕ)) → packable_entries depth seen es ≡ true → Distinct es
unfolding packable_entries Distinct
distinct no-entries depth seen p = tt
distinct (entry at start key place v es) depth seen p =
    let f = first-new depth seen key v es p in
    (unlike es depth (key ∷ seen) key (seen-now key seen) f.1, distinct es depth (key ∷ seen) f.1)

distinct-keys : (depth : ℕ) (es : Entries) → packable depth (dictionary es) ≡ true → Distinct es
unfolding packable
distinct-keys zero es p = absurd (false≢true p)
distinct-keys (suc depth) es p = distinct es depth [] ((and-eq-true_iff (holds 4 (count_entries es)) (packable_entries depth [] es)).0 p).1

-- ---- messages
pub sound : Claim
sound =
    record {
      part = read;
      message = accepted;
      again = again;
      keys = λ s depth at end es bs e. distinct-keys depth es (read s depth at end (dictionary es) bs e);
    }
  where
    read : (s : List ℕ) (depth at end : ℕ) (v : Value) → Bytes s → value_at s depth at ≡ parsed v end → packable depth v ≡ true
    read s depth at end v bs e = rw e at (value-packable s bs depth at)

    accepted : (l : List ℕ) (v : Value) → Bytes l → decode l ≡ returned v → packable most_open v ≡ true
    accepted l v bs e = decoded (Packable most_open) l v (λ short. value-packable l bs most_open 0) e

    again : (l : List ℕ) (v : Value) → Bytes l → decode l ≡ returned v → decode (pack v) ≡ returned (located 0 v)
    again l v bs e =
        let short : length l ≤ most_bytes = decoded (λ w end. length l ≤ most_bytes) l v (λ short. all short (value_at l most_open 0)) e in
        (round_trip v).decoded (accepted l v bs e) (omega (arith, (shortest v).message l v bs e refl))
      where
        all : length l ≤ most_bytes → (x : Parse Value) → Ends x (λ w end. length l ≤ most_bytes)
        all h (parsed w end) = h
        all h (failed why place) = tt
