-- Headers: a marker with the size that it gives. What is read behind one, and that one opens every extent. Assumes nothing.
use mathlib.Core.Path.{◌≡◌, refl, sym, ap, ◌∙◌}
use mathlib.Core.Bool.{Bool, true, false, cond, false≢true}
use mathlib.Core.List.{List, ◌∷◌}
use Prim.Native.Nat.{ℕ, zero, suc, ◌+◌, ◌^◌, ◌≤◌, ◌<◌}
use native.Mathlib.Omega.{arith}
use lib.Dec.{eqb, ltb}
use lib.ListN.{length, get_or}
use borrow.Author.Tests.{lt-ltb, ne_eqb, ltb-true}
use Rattle.std.specs.Prelude.{Result, Ok, Err}
use Rattle.slices.specs.Parts.{part, reaches}
use Rattle.slices.proofs.Parts.{reaches-yes}
use Rattle.numbers.specs.BigEndian.{big_endian, bytes_of}
use Rattle.numbers.specs.Access.{is_width}
use Rattle.numbers.proofs.BigEndian.{length-bytes_of, read_back}
use Rattle.numbers.proofs.Access.{unsigned-number, width-least}
use Rattle.markers.specs.Marker.{sized, marker_of, is_string}
use Rattle.markers.specs.Extents.{span, size_at, on_size, leaf_span, as_leaf, leaf_extent, container_extent, kind_extent, extent_at, key_kind_extent, key_extent_at}
use Rattle.values.specs.Decode.{leaf_at, container_at, value_at}
use Rattle.markers.specs.declared.kind.Leaf.{Leaf}
use Rattle.markers.specs.declared.kind.Leaf.TheVariants as L
use Rattle.markers.specs.declared.kind.Container.{Container}
use Rattle.markers.specs.declared.marker.Kind.{Kind}
use Rattle.markers.specs.declared.marker.Kind.TheVariants as K
use Rattle.markers.specs.declared.marker.Marker.{Marker}
use Rattle.markers.specs.declared.extent.Extent.{Extent}
use Rattle.markers.specs.declared.extent.Extent.TheVariants as E
use Rattle.markers.specs.declared.extent.Span.{Span}
use Rattle.numbers.specs.declared.ReadError.{ReadError}
use Rattle.refusal.specs.Answer.{placed}
use Rattle.refusal.specs.declared.Fault.{Fault}
use Rattle.refusal.specs.declared.Refusal.TheVariants.{ValueTruncated}
use Rattle.packstream.proofs.Here.{Here, here-room, here-part, here-inside, here-first, here-behind}

-- a header at `at` of a value of kind k and of size n, whose content starts at p
pub record Header (s : List ℕ) (at : ℕ) (k : Kind) (n p : ℕ) : Type 0 where
  pub marker : Marker
  pub inside : at < length s
  pub is : marker_of (get_or s at 0) ≡ marker
  pub kind : marker.kind ≡ k
  pub size : size_at s at marker ≡ Ok n
  pub start : at + marker.skip + marker.width ≡ p

module _ {s : List ℕ} {at b : ℕ} {after : List ℕ} where
  -- the marker tells the size
  pub header-itself : {v : List ℕ} (m : Marker) → Here s at (b ∷ v) after → marker_of b ≡ m → m.width ≡ 0 → Header s at m.kind m.size (at + m.skip)
  header-itself m h e z =
      record {
        marker = m;
        inside = here-inside h;
        is = ap marker_of (here-first h) ∙ e;
        kind = refl;
        size = rw z refl;
        start = omega arith;
      }

  -- the size stands behind the marker
  pub header-behind : (k : Kind) (width n : ℕ) → Here s at (b ∷ bytes_of width n) after → marker_of b ≡ sized k width 0 → is_width width ≡ true
      → n < 256 ^ width → Header s at k n (at + 1 + width)
  header-behind k width n h e w l =
      let d : length (bytes_of width n) ≡ width = length-bytes_of width n in
      let r : at + 1 + width ≤ length s = omega (arith, here-room (here-behind h), d) in
      let p : part s (at + 1) width ≡ bytes_of width n = ap (part s (at + 1)) (sym d) ∙ here-part (here-behind h) in
      record {
        marker = sized k width 0;
        inside = here-inside h;
        is = ap marker_of (here-first h) ∙ e;
        kind = refl;
        size =
            rw (ne_eqb width 0 (some width (width-least width w)))
            (sym (unsigned-number s (at + 1) width (record { width = w; inside = r })) ∙ ap Ok (ap big_endian p ∙ read_back width n l));
        start = refl;
      }
    where
      some : (k : ℕ) → 1 ≤ k → k ≡ 0 → ⊥
      some k h e = omega arith

-- ---- what is read behind it
module _ {s : List ℕ} {at n p : ℕ} where
  by_kind : {k : Kind} (depth : ℕ) (h : Header s at k n p) → extent_at s depth at ≡ kind_extent s depth at h.marker k
  unfolding extent_at
  by_kind depth h = rw (lt-ltb at (length s) h.inside, h.is, h.kind)

  leaf-is : (k : Leaf) (h : Header s at (K.Leaf k) n p) → p + n ≤ length s → leaf_extent s at k h.marker ≡ Ok (E.Leaf k p n)
  unfolding leaf_span
  leaf-is k h room = rw (h.size, h.start, reaches-yes s p n room)

  pub leaf-value : (k : Leaf) (depth : ℕ) → Header s at (K.Leaf k) n p → p + n ≤ length s → value_at s depth at ≡ leaf_at s at k p n
  unfolding value_at
  leaf-value k zero h room = rw (by_kind 0 h) (rw (leaf-is k h room) refl)
  leaf-value k (suc depth) h room = rw (by_kind (suc depth) h) (rw (leaf-is k h room) refl)

  pub container-value : (k : Container) (depth : ℕ) → Header s at (K.Container k) n p
      → value_at s (suc depth) at ≡ container_at s (λ p. value_at s depth p) at k p n
  unfolding value_at container_extent
  container-value k depth h = rw (by_kind (suc depth) h, ne_eqb (suc depth) 0 (some depth)) (rw (h.size, h.start) refl)
    where
      some : (k : ℕ) → suc k ≡ 0 → ⊥
      some k e = omega arith

  pub key-extent : Header s at (K.Leaf L.String) n p → p + n ≤ length s → key_extent_at s at ≡ Ok (span p n)
  unfolding key_extent_at leaf_span
  key-extent h room = rw (lt-ltb at (length s) h.inside, h.is, h.kind, h.size, h.start, reaches-yes s p n room) refl

-- ---- every extent has a header
-- either way of a test
pub by-test : {A : Type 0} (P : A → Type 0) (b : Bool) (x y : A) → (b ≡ true → P x) → (b ≡ false → P y) → P (cond b x y)
by-test P true x y g h = g refl
by-test P false x y g h = h refl

by_size : {A : Type 0} (P : Result A Fault → Type 0) (at : ℕ) (u : Result ℕ ReadError) (f : ℕ → Result A Fault) → ((n : ℕ) → u ≡ Ok n → P (f n))
    → P (Err (placed ValueTruncated at)) → P (on_size at u f)
by_size P at (Ok n) f g h = g n refl
by_size P at (Err why) f g h = h

abbrev pub Headed : List ℕ → ℕ → Result Extent Fault → Type 0
Headed s at (Ok (E.Leaf k p n)) = Header s at (K.Leaf k) n p
Headed s at (Ok (E.Container k p n)) = Header s at (K.Container k) n p
Headed s at (Err fault) = Unit {0}

-- a key's is a String's
abbrev pub KeyHeaded : List ℕ → ℕ → Result Span Fault → Type 0
KeyHeaded s at (Ok p) = Header s at (K.Leaf L.String) p.size p.start
KeyHeaded s at (Err fault) = Unit {0}

module _ (s : List ℕ) (at : ℕ) (h : at < length s) (m : Marker) (e : marker_of (get_or s at 0) ≡ m) where
  header_of : {k : Kind} (n : ℕ) → m.kind ≡ k → size_at s at m ≡ Ok n → Header s at k n (at + m.skip + m.width)
  header_of n k u = record { marker = m; inside = h; is = e; kind = k; size = u; start = refl }

  span-headed : (P : Result Span Fault → Type 0) → ((n : ℕ) → size_at s at m ≡ Ok n → P (Ok (span (at + m.skip + m.width) n)))
      → P (Err (placed ValueTruncated at)) → P (leaf_span s at m)
  unfolding leaf_span
  span-headed P there short =
      by_size P at (size_at s at m) _ (λ n u. by-test P (reaches s (at + m.skip + m.width) n) _ _ (λ r. there n u) (λ r. short)) short

  leaf-headed : (k : Leaf) → m.kind ≡ K.Leaf k → Headed s at (leaf_extent s at k m)
  leaf-headed k f = span-headed (λ r. Headed s at (as_leaf k r)) (λ n u. header_of n f u) tt

  container-headed : (k : Container) → m.kind ≡ K.Container k → Headed s at (container_extent s at k m)
  unfolding container_extent
  container-headed k f = by_size (Headed s at) at (size_at s at m) _ (λ n u. header_of n f u) tt

module _ (s : List ℕ) (at : ℕ) where
  pub headed : (depth : ℕ) → Headed s at (extent_at s depth at)
  unfolding extent_at
  headed depth =
      by-test (Headed s at) (ltb at (length s)) _ _ (λ h. by (marker_of (get_or s at 0)).kind refl (ltb-true at (length s) h)) (λ h. tt)
    where
      by : (k : Kind) → (marker_of (get_or s at 0)).kind ≡ k → at < length s → Headed s at (kind_extent s depth at (marker_of (get_or s at 0)) k)
      by K.Reserved f h = tt
      by (K.Leaf k) f h =
          leaf-headed s at h (marker_of (get_or s at 0)) refl k f
      by (K.Container k) f h =
          by-test (Headed s at) (eqb depth 0) _ _ (λ d. tt) (λ d. container-headed s at h (marker_of (get_or s at 0)) refl k f)

  pub key-headed : KeyHeaded s at (key_extent_at s at)
  unfolding key_extent_at
  key-headed =
      by-test (KeyHeaded s at) (ltb at (length s)) _ _ (λ h. by (marker_of (get_or s at 0)).kind refl (ltb-true at (length s) h)) (λ h. tt)
    where
      is-string : (k : Leaf) → is_string k ≡ true → k ≡ L.String
      is-string L.String e = refl
      is-string L.Null e = absurd (false≢true e)
      is-string L.Boolean e = absurd (false≢true e)
      is-string L.Integer e = absurd (false≢true e)
      is-string L.Float e = absurd (false≢true e)
      is-string L.Bytes e = absurd (false≢true e)

      by : (k : Kind) → (marker_of (get_or s at 0)).kind ≡ k → at < length s → KeyHeaded s at (key_kind_extent s at (marker_of (get_or s at 0)) k)
      by K.Reserved f h = tt
      by (K.Leaf k) f h =
          by-test (KeyHeaded s at) (is_string k) _ _
          (λ t. span-headed s at h (marker_of (get_or s at 0)) refl (KeyHeaded s at)
          (λ n u. header_of s at h (marker_of (get_or s at 0)) refl n (f ∙ ap K.Leaf (is-string k t)) u) tt)
          (λ t. tt)
      by (K.Container k) f h = tt
