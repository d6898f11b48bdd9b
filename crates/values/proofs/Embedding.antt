-- A value's bytes are read alike wherever they lie: what stands before them moves the offsets, what follows does not matter, and neither does more
-- room for open containers. Assumes nothing.
use mathlib.Core.Path.{◌≡◌, refl, sym, ap, ap₂, ◌∙◌, subst}
use mathlib.Core.Bool.{Bool, true, false, cond}
use mathlib.Core.List.{List, [], ◌∷◌}
use Prim.Native.Nat.{ℕ, zero, suc, ◌+◌, ◌-◌, ◌≤◌, ◌<◌}
use native.Mathlib.Omega.{arith}
use borrow.Author.Tests.{lt-ltb}
use lib.Dec.{eqb}
use lib.ListN.{length, get_or, take, drop}
use lib.Seq.{take-nil, take-take, take-length, drop-drop}
use Rattle.std.specs.Prelude.{Result, Ok}
use Rattle.slices.specs.Parts.{part}
use Rattle.refusal.specs.declared.Fault.{Fault}
use Rattle.slices.proofs.Parts.{get_d_part}
use Rattle.utf8.specs.Utf8.{utf8}
use Rattle.numbers.specs.BigEndian.{big_endian}
use Rattle.numbers.specs.TwosComplement.{twos}
use Rattle.numbers.specs.Access.{unsigned_at}
use Rattle.numbers.proofs.Access.{unsigned-found, unsigned-number}
use Rattle.markers.specs.Value as Tree
use Rattle.markers.specs.Value.{Value, Items, no_items, Entries, no-entries, relocate, relocate_items, relocate_entries}
use Rattle.markers.specs.Marker.{marker_of}
use Rattle.markers.specs.Private.Sizes.{has_size}
use Rattle.values.specs.Decode.{Parse, parsed, mapped, is_text, leaf_value, KeyText, repeats, key_at, items, entries, value_at}
use Rattle.markers.specs.Extents.{span, size_at, extent_at, key_extent_at}
use Rattle.values.specs.Private.Embedding.{Lies, ReadAlike, Claim}
use Rattle.markers.specs.declared.kind.Leaf.{Leaf}
use Rattle.markers.specs.declared.kind.Leaf.TheVariants as L
use Rattle.markers.specs.declared.kind.Container.{Container}
use Rattle.markers.specs.declared.kind.Container.TheVariants as C
use Rattle.markers.specs.declared.marker.Kind.{Kind}
use Rattle.markers.specs.declared.marker.Kind.TheVariants as K
use Rattle.markers.specs.declared.marker.Marker.{Marker}
use Rattle.markers.specs.declared.extent.Extent.{Extent}
use Rattle.markers.specs.declared.extent.Span.{Span}
use Rattle.markers.specs.declared.extent.Extent.TheVariants as E
use Rattle.markers.proofs.Offsets.{relocate-same}
use Rattle.markers.proofs.Extents as X
use Rattle.markers.proofs.Extents.{Marked, ExtentTells, extent-tells, leaf-extent-is, container-extent-is, key-extent-is, key-as-string, Inside, extent-inside, room_for}
use Rattle.values.proofs.Leaves.{boolean-size, leaf-text}
use Rattle.values.proofs.KeySearch as Keys
use Rattle.values.proofs.KeySearch.{KeyTells, key-tells, key-is, key-lies}
use Rattle.values.proofs.Steps as Steps
use Rattle.values.proofs.Steps.{first-item, first_entry_lem, ValueTells, value_tells, by-leaf, by-container}

-- a drop of a take
drop-take : (p n : ℕ) (l : List ℕ) → drop p (take n l) ≡ take (n - p) (drop p l)
drop-take zero n l = let e : n - 0 ≡ n = omega arith in rw e
drop-take (suc p) zero l = let e : 0 - suc p ≡ 0 = omega arith in rw e
drop-take (suc p) (suc n) [] = sym (take-nil (suc n - suc p))
drop-take (suc p) (suc n) (x ∷ l) = let e : suc n - suc p ≡ n - p = omega arith in rw e (drop-take p n l)

module _ (s t : List ℕ) (k : ℕ) (lies : Lies s t k) where
  -- ---- bytes and parts
  byte : (i : ℕ) → i < length s → get_or t (k + i) 0 ≡ get_or s i 0
  byte i h = sym (get_d_part t k (length s) i h) ∙ ap (λ (l : List ℕ). get_or l i 0) lies.bytes

  piece : (p n : ℕ) → p + n ≤ length s → part t (k + p) n ≡ part s p n
  piece p n h =
      ap (take n) (sym (drop-drop p k t))
      ∙ sym (take-take n (length s - p) (drop p (drop k t)) (omega arith))
      ∙ ap (take n) (sym (drop-take p (length s) (drop k t)))
      ∙ ap (λ (l : List ℕ). take n (drop p l)) lies.bytes

  -- ---- extents
  sized : (at : ℕ) (m : Marker) (n : ℕ) → Ok n ≡ size_at s at m → Ok n ≡ size_at t (k + at) m
  sized at m n e = by (eqb m.width 0) e
    where
      by : (b : Bool) → Ok n ≡ cond b (Ok m.size) (unsigned_at s (at + m.skip) m.width)
          → Ok n ≡ cond b (Ok m.size) (unsigned_at t (k + at + m.skip) m.width)
      by true e = e
      by false e =
          let f = unsigned-found s (at + m.skip) m.width n e in
          let i = f.1.inside in
          let a : k + at + m.skip ≡ k + (at + m.skip) = omega arith in
          rw a
          (ap Ok (f.0 ∙ ap big_endian (sym (piece (at + m.skip) m.width i)))
          ∙ unsigned-number t (k + (at + m.skip)) m.width (record { width = f.1.width; inside = omega (arith, lies.inside) }))

  marked : (at : ℕ) (j : Kind) (m : Marker) (n : ℕ) → Marked s at j m n → Marked t (k + at) j m n
  marked at j m n w =
      record {
        there = omega (arith, lies.inside, w.there);
        marker = w.marker ∙ ap marker_of (sym (byte at w.there));
        kind = w.kind;
        size = sized at m n w.size;
      }

  pub leaf-embeds : (d e at : ℕ) (j : Leaf) (p n : ℕ) → Ok (E.Leaf j p n) ≡ extent_at s d at → Ok (E.Leaf j (k + p) n) ≡ extent_at t e (k + at)
  leaf-embeds d e at j p n x = by (extent-tells s d at) x
    where
      by : {y : Result Extent Fault} → ExtentTells s d at y → Ok (E.Leaf j p n) ≡ y → Ok (E.Leaf j (k + p) n) ≡ extent_at t e (k + at)
      by (X.leaf i m r w h) x =
          let a : j ≡ i = cc x in
          let b : p ≡ at + m.skip + m.width = cc x in
          let c : n ≡ r = cc x in
          let f : k + p ≡ k + at + m.skip + m.width = omega arith in
          rw (a, c, f) (leaf-extent-is t e (k + at) i m r (marked at (K.Leaf i) m r w) (omega (arith, lies.inside, h)))
      by (X.container i m r w h) x = cc x
      by (X.none fault) x = cc x

  pub container-embeds : (d e at : ℕ) (j : Container) (p n : ℕ) → d ≤ e → Ok (E.Container j p n) ≡ extent_at s d at
      → Ok (E.Container j (k + p) n) ≡ extent_at t e (k + at)
  container-embeds d e at j p n l x = by (extent-tells s d at) x
    where
      by : {y : Result Extent Fault} → ExtentTells s d at y → Ok (E.Container j p n) ≡ y → Ok (E.Container j (k + p) n) ≡ extent_at t e (k + at)
      by (X.container i m r w h) x =
          let a : j ≡ i = cc x in
          let b : p ≡ at + m.skip + m.width = cc x in
          let c : n ≡ r = cc x in
          let f : k + p ≡ k + at + m.skip + m.width = omega arith in
          rw (a, c, f) (container-extent-is t e (k + at) i m r (marked at (K.Container i) m r w) (omega arith))
      by (X.leaf i m r w h) x = cc x
      by (X.none fault) x = cc x

  -- ---- leaves and keys
  abbrev moved : ℕ → ℕ
  moved n = k + n

  leaf-value-embeds : (j : Leaf) (p n : ℕ) → p + n ≤ length s → has_size j n ≡ true → leaf_value t j (k + p) n ≡ relocate moved (leaf_value s j p n)
  unfolding leaf_value relocate
  leaf-value-embeds L.Null p n h z = refl
  leaf-value-embeds L.Boolean p n h z =
      ap (λ (b : ℕ). Tree.boolean (eqb b 0xC3)) (byte p (omega (arith, boolean-size s L.Boolean p n refl z)))
  leaf-value-embeds L.Integer p n h z = ap (λ (l : List ℕ). Tree.integer (twos n (big_endian l))) (piece p n h)
  leaf-value-embeds L.Float p n h z = ap (λ (l : List ℕ). Tree.float (big_endian l)) (piece p n h)
  leaf-value-embeds L.Bytes p n h z = ap (Tree.bytes (k + p)) (piece p n h)
  leaf-value-embeds L.String p n h z = ap (Tree.string (k + p)) (piece p n h)

  abbrev moved_key : KeyText → KeyText
  moved_key x = record { start = k + x.start; content = x.content }

  key-span-embeds : (at : ℕ) (x : Span) → Ok x ≡ key_extent_at s at → Ok (span (k + x.start) x.size) ≡ key_extent_at t (k + at)
  key-span-embeds at x e = by (extent-tells s 0 at) (key-as-string s at x 0 e)
    where
      by : {y : Result Extent Fault} → ExtentTells s 0 at y → Ok (E.Leaf L.String x.start x.size) ≡ y → Ok (span (k + x.start) x.size) ≡ key_extent_at t (k + at)
      by (X.leaf i m r w h) e =
          let a : L.String ≡ i = cc e in
          let b : x.start ≡ at + m.skip + m.width = cc e in
          let c : x.size ≡ r = cc e in
          let f : k + x.start ≡ k + at + m.skip + m.width = omega arith in
          rw (c, f)
          (key-extent-is t (k + at) m r (marked at (K.Leaf L.String) m r (subst (λ (l : Leaf). Marked s at (K.Leaf l) m r) (sym a) w))
          (omega (arith, lies.inside, h)))
      by (X.container i m r w h) e = cc e
      by (X.none fault) e = cc e

  key-new-embeds : (seen : List (List ℕ)) (at : ℕ) (x : Span) → Ok x ≡ key_extent_at s at → utf8 (part s x.start x.size) ≡ true
      → repeats (part s x.start x.size) seen ≡ false
      → key_at t seen (k + at) ≡ parsed (record { start = k + x.start; content = part s x.start x.size }) (k + (x.start + x.size))
  key-new-embeds seen at x y f g =
      let h = piece x.start x.size (key-lies s seen at x y) in
      let a : k + x.start + x.size ≡ k + (x.start + x.size) = omega arith in
      key-is t seen (k + at) (span (k + x.start) x.size) (key-span-embeds at x y) (ap utf8 h ∙ f) (ap (λ (l : List ℕ). repeats l seen) h ∙ g)
      ∙ ap₂ (λ (l : List ℕ) (q : ℕ). parsed (record { start = k + x.start; content = l }) q) h a

  pub key-embeds : (seen : List (List ℕ)) (at : ℕ) (x : KeyText) (q : ℕ) → key_at s seen at ≡ parsed x q → key_at t seen (k + at) ≡ parsed (moved_key x) (k + q)
  key-embeds seen at x q e = by (key-tells s seen at) e
    where
      by : {g : Parse KeyText} → KeyTells s seen at g → g ≡ parsed x q → key_at t seen (k + at) ≡ parsed (moved_key x) (k + q)
      by (Keys.none why place) e = cc e
      by (Keys.new j y f g) e =
          let a : ◌≡◌ {A = KeyText} (record { start = j.start; content = part s j.start j.size }) x = cc e in
          let b : j.start + j.size ≡ q = cc e in
          rw (← a, ← b) (key-new-embeds seen at j y f g)

  -- ---- items, entries, values
  module _ (f g : ℕ → Parse Value) (same : (p : ℕ) (v : Value) (q : ℕ) → f p ≡ parsed v q → g (k + p) ≡ parsed (relocate moved v) (k + q)) where
    items-embed : (n at : ℕ) (vs : Items) (end : ℕ) → items f n at ≡ parsed vs end → items g n (k + at) ≡ parsed (relocate_items moved vs) (k + end)
    unfolding items relocate
    items-embed zero at vs end e = let a : no_items ≡ vs = cc e in let b : at ≡ end = cc e in rw (← a, b)
    items-embed (suc n) at vs end e =
        let i = first-item f n at vs end e in
        rw (i.all, same at i.v i.next i.value, items-embed n i.next i.rest end i.others)

    entries-embed : (seen : List (List ℕ)) (n at : ℕ) (es : Entries) (end : ℕ) → entries s f seen n at ≡ parsed es end
        → entries t g seen n (k + at) ≡ parsed (relocate_entries moved es) (k + end)
    unfolding entries relocate
    entries-embed seen zero at es end e = let a : no-entries ≡ es = cc e in let b : at ≡ end = cc e in rw (← a, b)
    entries-embed seen (suc n) at es end e =
        let i = first_entry_lem s f seen n at es end e in
        rw (i.all, key-embeds seen at i.k i.place i.key, same i.place i.v i.next i.value, entries-embed (i.k.content ∷ seen) n i.next i.rest end i.others)

  -- one value, where those that it holds are read alike
  module _ (d e : ℕ) (l : d ≤ e)
      (inner : 1 ≤ d → (p : ℕ) (v : Value) (q : ℕ) → value_at s (d - 1) p ≡ parsed v q → value_at t (e - 1) (k + p) ≡ parsed (relocate moved v) (k + q)) where
    value-step : (at : ℕ) {g : Parse Value} → ValueTells s d at g → (v : Value) (q : ℕ) → g ≡ parsed v q → value_at t e (k + at) ≡ parsed (relocate moved v) (k + q)
    unfolding relocate
    value-step at (Steps.none why place) v q f = cc f
    value-step at (Steps.leaf j p n x h) v q f =
        let i = subst (Inside s at) (sym x) (extent-inside s at d) in
        let a : leaf_value s j p n ≡ v = cc f in
        let b : p + n ≡ q = cc f in
        let c : k + p + n ≡ k + (p + n) = omega arith in
        rw (← a, ← b)
        (sym (by-leaf t e (k + at) j (k + p) n (leaf-embeds d e at j p n x))
        ∙ leaf-text t (k + at) j (k + p) n (ap (is_text j) (piece p n i.inside) ∙ h)
        ∙ ap₂ (λ (w : Value) (r : ℕ). parsed w r) (leaf-value-embeds j p n i.inside i.sized) c)
    value-step at (Steps.list p n vs end x h) v q f =
        let a : Tree.list vs ≡ v = cc f in
        let b : end ≡ q = cc f in
        let one = room_for s d at C.List p n x in
        rw (← a, ← b)
        (sym (by-container t e (k + at) C.List (k + p) n (container-embeds d e at C.List p n l x))
        ∙ ap (mapped Tree.list) (items-embed (value_at s (d - 1)) (value_at t (e - 1)) (inner one) n p vs end h))
    value-step at (Steps.dictionary p n es end x h) v q f =
        let a : Tree.dictionary es ≡ v = cc f in
        let b : end ≡ q = cc f in
        let one = room_for s d at C.Dictionary p n x in
        rw (← a, ← b)
        (sym (by-container t e (k + at) C.Dictionary (k + p) n (container-embeds d e at C.Dictionary p n l x))
        ∙ ap (mapped Tree.dictionary) (entries-embed (value_at s (d - 1)) (value_at t (e - 1)) (inner one) [] n p es end h))
    value-step at (Steps.structure p n vs end x r h) v q f =
        let a : Tree.structure (get_or s p 0) vs ≡ v = cc f in
        let b : end ≡ q = cc f in
        let one = room_for s d at C.Structure p n x in
        let c : k + p + 1 ≡ k + (p + 1) = omega arith in
        rw (← a, ← b)
        (sym (by-container t e (k + at) C.Structure (k + p) n (container-embeds d e at C.Structure p n l x))
        ∙ rw (lt-ltb (k + p) (length t) (omega (arith, lies.inside, r)), byte p r, c)
        (ap (mapped (Tree.structure (get_or s p 0))) (items-embed (value_at s (d - 1)) (value_at t (e - 1)) (inner one) n (p + 1) vs end h)))

  -- every value
  value-embeds : ReadAlike s t k
  value-embeds zero e l at v q f = value-step zero e l (λ h p w r g. absurd (none h)) at (value_tells s zero at) v q f
    where
      none : 1 ≤ 0 → ⊥
      none h = omega arith
  value-embeds (suc d) e l at v q f =
      let m : suc d - 1 ≡ d = omega arith in
      value-step (suc d) e l (λ h p w r g. value-embeds d (e - 1) (omega arith) p w r (rw m at g)) at (value_tells s (suc d) at) v q f

-- every value is read alike
pub embedding : Claim
embedding s t k lies = value-embeds s t k lies

-- ---- a value with others after it, and with more room
none_before : (n : ℕ) → 0 + n ≡ n
none_before n = omega arith

pub lies-itself : (s : List ℕ) → Lies s s 0
lies-itself s = record { bytes = take-length s; inside = omega arith }

module _ (s t : List ℕ) (lies : Lies s t 0) (d e : ℕ) (l : d ≤ e) (at : ℕ) where
  -- the end of a value does not depend on what follows it, nor on how much room there is
  pub value-in-front : (v : Value) (q : ℕ) → value_at s d at ≡ parsed v q → value_at t e at ≡ parsed v q
  value-in-front v q f =
      let g = embedding s t 0 lies d e l at v q f in
      ap (value_at t e) (sym (none_before at)) ∙ g ∙ ap₂ (λ (w : Value) (n : ℕ). parsed w n) (relocate-same (λ n. 0 + n) none_before v) (none_before q)

module _ (s : List ℕ) (d e at : ℕ) where
  pub leaf-any-room : (j : Leaf) (p n : ℕ) → Ok (E.Leaf j p n) ≡ extent_at s d at → Ok (E.Leaf j p n) ≡ extent_at s e at
  leaf-any-room j p n x =
      let g = leaf-embeds s s 0 (lies-itself s) d e at j p n x in
      ap (λ (q : ℕ). Ok (E.Leaf j q n)) (sym (none_before p)) ∙ g ∙ ap (extent_at s e) (none_before at)

  pub container-more-room : d ≤ e → (j : Container) (p n : ℕ) → Ok (E.Container j p n) ≡ extent_at s d at → Ok (E.Container j p n) ≡ extent_at s e at
  container-more-room l j p n x =
      let g = container-embeds s s 0 (lies-itself s) d e at j p n l x in
      ap (λ (q : ℕ). Ok (E.Container j q n)) (sym (none_before p)) ∙ g ∙ ap (extent_at s e) (none_before at)
