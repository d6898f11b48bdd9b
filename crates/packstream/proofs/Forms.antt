-- The forms that are accepted: what every marker takes, and so what sizes, Integers and the other leaves take. Assumes nothing.
use mathlib.Core.Path.{◌≡◌, refl, sym, ap₂, ◌∙◌, subst}
use mathlib.Core.Logic.{◌⊎◌, inl, inr, ⊎_elim}
use mathlib.Core.Bool.{Bool, true, false, cond, ◌&&◌, ◌||◌, and-eq-true_iff}
use mathlib.Core.List.{List, ◌∷◌}
use Prim.Native.Nat.{ℕ, suc, ◌+◌, ◌^◌, ◌≤◌, ◌<◌}
use native.Mathlib.Omega.{arith}
use borrow.Author.Tests.{lt-ltb, leb-true, eqb-true, ne_eqb}
use lib.Dec.{ltb, leb, eqb}
use lib.IntN.{ℤ}
use lib.ListN.{length, get_or, length-append}
use Rattle.std.specs.Prelude.{Result, Ok}
use Rattle.numbers.specs.declared.ReadError.{ReadError}
use Rattle.slices.specs.Parts.{part}
use Rattle.slices.proofs.Parts.{bytes-part, length_part, part-cons}
use Rattle.slices.proofs.Below.{below}
use Rattle.numbers.specs.BigEndian.{big_endian, bytes_of, holds, Bytes}
use Rattle.numbers.specs.TwosComplement.{twos, bits_of, fits_in}
use Rattle.numbers.specs.Access.{is_width}
use Rattle.numbers.proofs.BigEndian.{length-bytes_of, big_lt, big-one}
use Rattle.numbers.proofs.TwosComplement.{twos-fits}
use Rattle.numbers.proofs.Access.{width-least, unsigned-found, lies-lt}
use Rattle.numbers.proofs.RoundTrip.{round_trip as of_width}
use Rattle.markers.specs.Marker.{lookup, marker_of}
use Rattle.markers.specs.Extents.{size_at}
use Rattle.values.specs.Decode.{leaf_value}
use Rattle.packing.specs.Packing.{narrowest, doublings, wide, is_tiny, pack_integer, size_width, header_length, pack_bytes, string_header, pack_string, pack}
use Rattle.packstream.specs.Shortest.{IntegerForm, itself, behind}
use Rattle.markers.specs.declared.kind.Leaf.{Leaf}
use Rattle.markers.specs.declared.kind.Leaf.TheVariants as L
use Rattle.markers.specs.declared.kind.Container.{Container}
use Rattle.markers.specs.declared.kind.Container.TheVariants as C
use Rattle.markers.specs.declared.marker.Kind.{Kind}
use Rattle.markers.specs.declared.marker.Kind.TheVariants as K
use Rattle.markers.specs.declared.marker.Marker.{Marker}
use Rattle.markers.proofs.Extents.{LeafInside}
use Rattle.packing.proofs.Packing.{narrowest-least, length-wide, length-tiny, length-integer, length-boolean, length_header}
use Rattle.packstream.proofs.Headers.{Header}

-- ---- what every marker takes
-- a size in the marker, in no more bytes than its shortest header; or behind the marker, in a width
size_form : Marker → Bool
size_form m = cond (eqb m.width 0) (leb (header_length m.size) m.skip) (eqb m.skip 1 && is_width m.width)

-- an Integer in the marker itself, or in so many bytes behind its marker
integer_form : ℕ → Marker → Bool
integer_form b m =
    eqb m.width 0
    && ((eqb m.skip 0 && (eqb m.size 1 && is_tiny (twos 1 b))) || (eqb m.skip 1 && (is_width m.size && eqb b (0xC8 + doublings m.size))))

leaf_form : Leaf → ℕ → Marker → Bool
leaf_form L.Null b m = true
leaf_form L.Boolean b m = true
leaf_form L.Integer b m = integer_form b m
leaf_form L.Float b m = eqb m.skip 1
leaf_form L.Bytes b m = eqb m.skip 1 && is_width m.width
leaf_form L.String b m = size_form m

container_form : Container → Marker → Bool
container_form C.List m = size_form m
container_form C.Dictionary m = size_form m
container_form C.Structure m = eqb m.skip 1

kind_form : Kind → ℕ → Marker → Bool
kind_form K.Reserved b m = true
kind_form (K.Leaf k) b m = leaf_form k b m
kind_form (K.Container k) b m = container_form k m

marker-form : (b : ℕ) → b < 256 → kind_form (marker_of b).kind b (marker_of b) ≡ true
unfolding kind_form leaf_form container_form integer_form size_form marker_of lookup twos doublings narrowest
marker-form b h = below (λ b. kind_form (marker_of b).kind b (marker_of b)) 256 refl b h

or-true : (a b : Bool) → (a || b) ≡ true → (a ≡ true) ⊎ (b ≡ true)
or-true true b e = inl refl
or-true false b e = inr e

-- the marker of a header has its kind's form
header-form : (s : List ℕ) {at n p : ℕ} {k : Kind} → Bytes s → (h : Header s at k n p) → kind_form k (get_or s at 0) h.marker ≡ true
header-form s {at} {k = k} bs h =
    let b = get_or s at 0 in
    subst (λ (j : Kind). kind_form j b h.marker ≡ true) h.kind
    (subst (λ (m : Marker). kind_form m.kind b m ≡ true) h.is (marker-form b (bs at)))

-- ---- sizes
module _ (s : List ℕ) (bs : Bytes s) (at n : ℕ) (m : Marker) (e : size_at s at m ≡ Ok n) where
  -- behind the marker it has no less than its narrowest width
  behind-least : is_width m.width ≡ true → size_width n ≤ m.width
  behind-least w =
      let f = unsigned-found s (at + m.skip) m.width n (sym (rw (ne_eqb m.width 0 (some m.width (width-least m.width w))) at e)) in
      narrowest-least (λ w. holds w n) m.width w
      (lt-ltb n (256 ^ m.width) (rw f.0 (lies-lt s (at + m.skip) m.width bs f.1)))
    where
      some : (k : ℕ) → 1 ≤ k → k ≡ 0 → ⊥
      some k h z = omega arith

  header-least : size_form m ≡ true → header_length n ≤ m.skip + m.width
  unfolding size_form
  header-least f = by (eqb m.width 0) refl
    where
      one_more_lem : header_length n ≤ 1 + size_width n
      one_more_lem = by-short (ltb n 16)
        where
          by-short : (b : Bool) → cond b 1 (1 + size_width n) ≤ 1 + size_width n
          by-short true = omega arith
          by-short false = omega arith

      by : (b : Bool) → eqb m.width 0 ≡ b → header_length n ≤ m.skip + m.width
      by true g =
          let same : ◌≡◌ {A = Result ℕ ReadError} (Ok m.size) (Ok n) = rw g at e in
          let k : m.size ≡ n = cc in
          omega (arith, subst (λ (i : ℕ). header_length i ≤ m.skip) k (leb-true (header_length m.size) m.skip (rw g at f)))
      by false g =
          let h = (and-eq-true_iff (eqb m.skip 1) (is_width m.width)).0 (rw g at f) in
          omega (arith, one_more_lem, behind-least h.1, eqb-true m.skip 1 h.0)

-- ---- Integers
-- a form that lies at `at` and ends at `end`
pub record Formed (s : List ℕ) (at : ℕ) (z : ℤ) (end : ℕ) : Type 0 where
  pub bytes : List ℕ
  pub form : IntegerForm z bytes
  pub ends : at + length bytes ≡ end
  pub is : part s at (length bytes) ≡ bytes

module _ (s : List ℕ) (bs : Bytes s) (at : ℕ) where
  tiny-formed : is_tiny (twos 1 (get_or s at 0)) ≡ true → at < length s → Formed s at (twos 1 (big_endian (part s at 1))) (at + 1)
  tiny-formed t h =
      let v = part s at 1 in
      let l : length v ≡ 1 = length_part s at 1 (omega arith) in
      let e : bytes_of 1 (bits_of 1 (twos 1 (big_endian v))) ≡ v = (of_width 1).signed-bytes v l (bytes-part s at 1 bs) in
      record {
        bytes = bytes_of 1 (bits_of 1 (twos 1 (big_endian v)));
        form = itself (rw (big-one s at h) t);
        ends = rw (e, l) refl;
        is = rw (e, l) refl;
      }

  wide-formed : (n : ℕ) → is_width n ≡ true → get_or s at 0 ≡ 0xC8 + doublings n → at + 1 + n ≤ length s
      → Formed s at (twos n (big_endian (part s (at + 1) n))) (at + 1 + n)
  wide-formed n w b h =
      let v = part s (at + 1) n in
      let l : length v ≡ n = length_part s (at + 1) n h in
      let c : Bytes v = bytes-part s (at + 1) n bs in
      let z = twos n (big_endian v) in
      let e : bytes_of n (bits_of n z) ≡ v = (of_width n).signed-bytes v l c in
      let k : big_endian v < 256 ^ n = subst (λ (j : ℕ). big_endian v < 256 ^ j) l (big_lt v c) in
      let m : length (wide 0xC8 n (bits_of n z)) ≡ suc n = omega (arith, length-wide 0xC8 n (bits_of n z)) in
      record {
        bytes = wide 0xC8 n (bits_of n z);
        form = behind n w (twos-fits n (big_endian v) k);
        ends = omega arith;
        is = rw m (part-cons s at n (omega arith) ∙ ap₂ (λ (x : ℕ) (xs : List ℕ). x ∷ xs) b (sym e));
      }

  pub integer-formed : (n p : ℕ) → Header s at (K.Leaf L.Integer) n p → p + n ≤ length s → Formed s at (twos n (big_endian (part s p n))) (p + n)
  unfolding kind_form leaf_form integer_form
  integer-formed n p h room =
      let m = h.marker in
      let tiny = eqb m.skip 0 && (eqb m.size 1 && is_tiny (twos 1 (get_or s at 0))) in
      let wider = eqb m.skip 1 && (is_width m.size && eqb (get_or s at 0) (0xC8 + doublings m.size)) in
      let f = (and-eq-true_iff (eqb m.width 0) (tiny || wider)).0 (header-form s bs h) in
      let z : m.width ≡ 0 = eqb-true m.width 0 f.0 in
      let o : ◌≡◌ {A = Result ℕ ReadError} (Ok m.size) (Ok n) = rw f.0 at h.size in
      let k : m.size ≡ n = cc in
      ⊎_elim (λ t. in_itself k z ((and-eq-true_iff (eqb m.skip 0) _).0 t)) (λ t. in_bytes k z ((and-eq-true_iff (eqb m.skip 1) _).0 t)) (or-true tiny wider f.1)
    where
      in_itself : h.marker.size ≡ n → h.marker.width ≡ 0
          → (eqb h.marker.skip 0 ≡ true) × ((eqb h.marker.size 1 && is_tiny (twos 1 (get_or s at 0))) ≡ true)
          → Formed s at (twos n (big_endian (part s p n))) (p + n)
      in_itself k z (t, u) =
          let v = (and-eq-true_iff (eqb h.marker.size 1) (is_tiny (twos 1 (get_or s at 0)))).0 u in
          let one : n ≡ 1 = sym k ∙ eqb-true h.marker.size 1 v.0 in
          let place : p ≡ at = omega (arith, h.start, eqb-true h.marker.skip 0 t, z) in
          rw (one, place) (tiny-formed v.1 h.inside)

      in_bytes : h.marker.size ≡ n → h.marker.width ≡ 0
          → (eqb h.marker.skip 1 ≡ true) × ((is_width h.marker.size && eqb (get_or s at 0) (0xC8 + doublings h.marker.size)) ≡ true)
          → Formed s at (twos n (big_endian (part s p n))) (p + n)
      in_bytes k z (t, u) =
          let v = (and-eq-true_iff (is_width h.marker.size) (eqb (get_or s at 0) (0xC8 + doublings h.marker.size))).0 u in
          let place : p ≡ at + 1 = omega (arith, h.start, eqb-true h.marker.skip 1 t, z) in
          rw place (wide-formed n (rw k at v.0) (eqb-true (get_or s at 0) (0xC8 + doublings n) (rw k at v.1)) (omega arith))

pub form-least : {z : ℤ} {l : List ℕ} → IntegerForm z l → length (pack_integer z) ≤ length l
form-least {z} (itself t) = omega (arith, length-tiny z t, length-bytes_of 1 (bits_of 1 z))
form-least {z} (behind w v f) = by (is_tiny z) refl
  where
    by : (b : Bool) → is_tiny z ≡ b → length (pack_integer z) ≤ length (wide 0xC8 w (bits_of w z))
    by true t = omega (arith, length-tiny z t)
    by false t = omega (arith, length-integer z t, narrowest-least (λ w. fits_in w z) w v f, length-wide 0xC8 w (bits_of w z))

-- ---- leaves and headers
module _ (s : List ℕ) (bs : Bytes s) (at n p : ℕ) where
  sized-least : {k : Kind} (h : Header s at k n p) → size_form h.marker ≡ true → at + header_length n ≤ p
  sized-least h f = omega (arith, header-least s bs at n h.marker h.size f, h.start)

  pub list-least : Header s at (K.Container C.List) n p → at + header_length n ≤ p
  unfolding kind_form container_form
  list-least h = sized-least h (header-form s bs h)

  pub dictionary-least : Header s at (K.Container C.Dictionary) n p → at + header_length n ≤ p
  unfolding kind_form container_form
  dictionary-least h = sized-least h (header-form s bs h)

  -- its tag is still to come
  pub structure-least : Header s at (K.Container C.Structure) n p → at + 1 ≤ p
  unfolding kind_form container_form
  structure-least h = omega (arith, eqb-true h.marker.skip 1 (header-form s bs h), h.start)

  pub string-least : Header s at (K.Leaf L.String) n p → p + n ≤ length s → at + length (pack_string (part s p n)) ≤ p + n
  unfolding kind_form leaf_form
  string-least h room =
      let l : length (part s p n) ≡ n = length_part s p n room in
      let e : length (pack_string (part s p n)) ≡ header_length n + n =
      length-append (string_header (length (part s p n))) (part s p n) ∙ rw (l, length_header 0x80 0xD0 n) refl in
      omega (arith, sized-least h (header-form s bs h))

  bytes-least : Header s at (K.Leaf L.Bytes) n p → p + n ≤ length s → at + length (pack_bytes (part s p n)) ≤ p + n
  unfolding kind_form leaf_form
  bytes-least h room =
      let l : length (part s p n) ≡ n = length_part s p n room in
      let m = h.marker in
      let f = (and-eq-true_iff (eqb m.skip 1) (is_width m.width)).0 (header-form s bs h) in
      let e : length (pack_bytes (part s p n)) ≡ 1 + size_width n + n =
      length-append (wide 0xCC (size_width (length (part s p n))) (length (part s p n))) (part s p n) ∙ rw (l, length-bytes_of (size_width n) n) (omega arith) in
      omega (arith, behind-least s bs at n m h.size f.1, eqb-true m.skip 1 f.0, h.start)

  pub leaf-least : (k : Leaf) → Header s at (K.Leaf k) n p → LeafInside s at k p n → at + length (pack (leaf_value s k p n)) ≤ p + n
  unfolding leaf_value pack kind_form leaf_form
  leaf-least L.Null h i = omega (arith, i.past)
  leaf-least L.Boolean h i = omega (arith, i.past, length-boolean (eqb (get_or s p 0) 0xC3))
  leaf-least L.Integer h i =
      let f = integer-formed s bs at n p h i.inside in
      omega (arith, form-least f.form, f.ends)
  leaf-least L.Float h i =
      omega (arith, length-bytes_of 8 (big_endian (part s p n)), eqb-true n 8 i.sized, eqb-true h.marker.skip 1 (header-form s bs h), h.start)
  leaf-least L.Bytes h i = bytes-least h i.inside
  leaf-least L.String h i = string-least h i.inside
