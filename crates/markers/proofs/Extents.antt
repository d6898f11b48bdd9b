-- Laws of extents: what the code's tests make of them, and what holds of every one. Assumes nothing.
use mathlib.Core.Path.{◌≡◌, refl, sym, ap, ◌∙◌, subst}
use mathlib.Core.Bool.{Bool, true, false, not, cond, false≢true}
use mathlib.Core.List.{List}
use Prim.Native.Nat.{ℕ, zero, suc, ◌+◌, ◌^◌, ◌≤◌, ◌<◌}
use native.Mathlib.Omega.{arith}
use lib.Dec.{ltb, eqb}
use lib.ListN.{length, get_or}
use borrow.Author.Tests.{lt-ltb, le-ltb, ltb-true, eq-eqb, ne_eqb, eqb-true, eqb-false}
use Rattle.std.specs.Prelude.{Result, Ok, Err}
use Rattle.slices.specs.Parts.{reaches}
use Rattle.slices.proofs.Parts.{reaches-yes, reaches-no, reaches-le}
use Rattle.numbers.specs.Access.{unsigned_at}
use Rattle.numbers.specs.declared.ReadError.{ReadError}
use Rattle.numbers.specs.BigEndian.{Bytes}
use Rattle.numbers.proofs.Access.{unsigned-found, lies-lt}
use Rattle.numbers.proofs.BigEndian.{pow256-mono}
use Rattle.refusal.specs.Answer.{placed}
use Rattle.refusal.specs.declared.Fault.{Fault}
use Rattle.refusal.specs.declared.Refusal.TheVariants.{ValueTruncated, ReservedMarker, TooDeep, KeyNotString}
use Rattle.markers.specs.Marker.{itself, small, marker_of, is_string}
use Rattle.markers.specs.Private.Sizes.{has_size}
use Rattle.markers.specs.Extents.{span, size_at, on_size, leaf_span, as_leaf, leaf_extent, container_extent, kind_extent, missing, extent_at, key_kind_extent, key_extent_at}
use Rattle.markers.specs.declared.kind.Leaf.{Leaf}
use Rattle.markers.specs.declared.kind.Leaf.TheVariants as L
use Rattle.markers.specs.declared.kind.Container.{Container}
use Rattle.markers.specs.declared.marker.Kind.{Kind}
use Rattle.markers.specs.declared.marker.Kind.TheVariants as K
use Rattle.markers.specs.declared.marker.Marker.{Marker}
use Rattle.markers.specs.declared.extent.Extent.{Extent}
use Rattle.markers.specs.declared.extent.Extent.TheVariants as E
use Rattle.markers.specs.declared.extent.Span.{Span}
use Rattle.markers.proofs.Markers.{tells_size, SoundLeaf, sound-leaf, SoundContainer, sound-container}

-- ---- sizes
-- what the code makes of a size, and what stands for it
module _ {A : Type 0} (at : ℕ) (f : ℕ → Result A Fault) where
  pub on-size-ok : (n : ℕ) (u : Result ℕ ReadError) → on_size at u (λ m. Ok m) ≡ Ok n → f n ≡ on_size at u f
  on-size-ok n (Ok m) e = let g : m ≡ n = cc e in ap f (sym g)
  on-size-ok n (Err why) e = cc e

  pub on-size-err : (fault : Fault) (u : Result ℕ ReadError) → on_size at u (λ m. Ok m) ≡ Err fault → Err fault ≡ on_size at u f
  on-size-err fault (Ok m) e = cc e
  on-size-err fault (Err why) e = let g : placed ValueTruncated at ≡ fault = cc e in ap (λ (x : Fault). Err x) (sym g)

pub size-ok : (at n : ℕ) (u : Result ℕ ReadError) → on_size at u (λ m. Ok m) ≡ Ok n → Ok n ≡ u
size-ok at n (Ok m) e = cc e
size-ok at n (Err why) e = cc e

module _ (s : List ℕ) (at : ℕ) (m : Marker) where
  -- a size that was found: the marker's own, or its bytes are there
  found-size : (n : ℕ) (b : Bool) → Ok n ≡ cond b (Ok m.size) (unsigned_at s (at + m.skip) m.width) → eqb m.width 0 ≡ b
      → at < length s → m.skip ≤ 1 → at + m.skip + m.width ≤ length s
  found-size n true e f h l = omega (arith, eqb-true m.width 0 f)
  found-size n false e f h l = (unsigned-found s (at + m.skip) m.width n e).1.inside

  -- past a size that was found, the message goes on or ends
  pub size-inside : (n : ℕ) → Ok n ≡ size_at s at m → at < length s → m.skip ≤ 1 → at + m.skip + m.width ≤ length s
  size-inside n e = found-size n (eqb m.width 0) e refl

-- ---- what the code's tests make of a leaf and of a container
module _ (s : List ℕ) (at : ℕ) (m : Marker) where
  module _ (n : ℕ) (e : Ok n ≡ size_at s at m) where
    by_size : leaf_span s at m ≡ cond (reaches s (at + m.skip + m.width) n) (Ok (span (at + m.skip + m.width) n)) (Err (placed ValueTruncated at))
    unfolding leaf_span
    by_size =
        ap (λ (u : Result ℕ ReadError). on_size at u (λ n. cond (reaches s (at + m.skip + m.width) n) (Ok (span (at + m.skip + m.width) n)) (Err (placed ValueTruncated at))))
        (sym e)

    pub leaf-short : length s < at + m.skip + m.width + n → Err (placed ValueTruncated at) ≡ leaf_span s at m
    leaf-short h = rw (by_size, reaches-no s (at + m.skip + m.width) n h)

    pub leaf-there : at + m.skip + m.width + n ≤ length s → Ok (span (at + m.skip + m.width) n) ≡ leaf_span s at m
    leaf-there h = rw (by_size, reaches-yes s (at + m.skip + m.width) n h)

    pub container-there : (k : Container) → Ok (E.Container k (at + m.skip + m.width) n) ≡ container_extent s at k m
    unfolding container_extent
    container-there k = ap (λ (u : Result ℕ ReadError). on_size at u (λ n. Ok (E.Container k (at + m.skip + m.width) n))) e

  pub leaf-unsized : (fault : Fault) → on_size at (size_at s at m) (λ n. Ok n) ≡ Err fault → Err fault ≡ leaf_span s at m
  unfolding leaf_span
  leaf-unsized fault e = on-size-err at _ fault (size_at s at m) e

  pub container-unsized : (k : Container) (fault : Fault) → on_size at (size_at s at m) (λ n. Ok n) ≡ Err fault → Err fault ≡ container_extent s at k m
  unfolding container_extent
  container-unsized k fault e = on-size-err at _ fault (size_at s at m) e

-- a leaf whose marker alone tells its size: a small String, and a small Integer
module _ (s : List ℕ) (at : ℕ) where
  pub string-short : (n : ℕ) → length s < at + 1 + n → Err (placed ValueTruncated at) ≡ leaf_span s at (small (K.Leaf L.String) n)
  string-short n h = leaf-short s at (small (K.Leaf L.String) n) n refl (omega arith)

  pub string-there : (n : ℕ) → at + 1 + n ≤ length s → Ok (span (at + 1) n) ≡ leaf_span s at (small (K.Leaf L.String) n)
  string-there n h =
      let p : at + 1 + 0 ≡ at + 1 = omega arith in
      rw p at (leaf-there s at (small (K.Leaf L.String) n) n refl (omega arith))

  pub integer-there : at < length s → Ok (span at 1) ≡ leaf_span s at (itself L.Integer 0)
  integer-there h =
      let p : at + 0 + 0 ≡ at = omega arith in
      rw p at (leaf-there s at (itself L.Integer 0) 1 refl (omega arith))

-- ---- by the marker's kind
other-leaf : (k : Leaf) → (k ≡ L.String → ⊥) → is_string k ≡ false
other-leaf L.Null n = refl
other-leaf L.Boolean n = refl
other-leaf L.Integer n = refl
other-leaf L.Float n = refl
other-leaf L.Bytes n = refl
other-leaf L.String n = absurd (n refl)

module _ (s : List ℕ) (at : ℕ) where
  -- no marker
  pub extent-missing : (depth : ℕ) → length s ≤ at → Err (missing s) ≡ extent_at s depth at
  unfolding extent_at
  extent-missing depth h = rw (le-ltb at (length s) h)

  pub key-missing : length s ≤ at → Err (missing s) ≡ key_extent_at s at
  unfolding key_extent_at
  key-missing h = rw (le-ltb at (length s) h)

  -- a marker m
  module _ (h : at < length s) (m : Marker) (e : m ≡ marker_of (get_or s at 0)) where
    pub by_kind : (depth : ℕ) (k : Kind) → k ≡ m.kind → kind_extent s depth at m k ≡ extent_at s depth at
    unfolding extent_at
    by_kind depth k f = rw (lt-ltb at (length s) h, f, e)

    pub by-key-kind : (k : Kind) → k ≡ m.kind → key_kind_extent s at m k ≡ key_extent_at s at
    unfolding key_extent_at
    by-key-kind k f = rw (lt-ltb at (length s) h, f, e)

    -- a leaf that is no String is no key
    pub key-other : (k : Leaf) → K.Leaf k ≡ m.kind → (k ≡ L.String → ⊥) → Err (placed KeyNotString at) ≡ key_extent_at s at
    key-other k f n = rw (other-leaf k n) at (by-key-kind (K.Leaf k) f)

    pub too-deep : (depth : ℕ) (k : Container) → K.Container k ≡ m.kind → depth ≡ 0 → Err (placed TooDeep at) ≡ extent_at s depth at
    too-deep depth k f d = simp (eq-eqb depth 0 d) at (by_kind depth (K.Container k) f)

    pub deep-enough : (depth : ℕ) (k : Container) → K.Container k ≡ m.kind → (depth ≡ 0 → ⊥) → container_extent s at k m ≡ extent_at s depth at
    deep-enough depth k f d = simp (ne_eqb depth 0 d) at (by_kind depth (K.Container k) f)

-- ---- what holds of every extent: it lies inside the message and past its marker, and a leaf's size is one that its kind has
pub record LeafInside (s : List ℕ) (at : ℕ) (k : Leaf) (p n : ℕ) : Type 0 where
  pub past : at < p + n
  pub inside : p + n ≤ length s
  pub sized : has_size k n ≡ true

pub record ContainerInside (s : List ℕ) (at p : ℕ) : Type 0 where
  pub past : at < p
  pub inside : p ≤ length s

abbrev pub Inside : List ℕ → ℕ → Result Extent Fault → Type 0
Inside s at (Ok (E.Leaf k p n)) = LeafInside s at k p n
Inside s at (Ok (E.Container k p n)) = ContainerInside s at p
Inside s at (Err fault) = Unit {0}

abbrev pub SpanInside : List ℕ → ℕ → Leaf → Result Span Fault → Type 0
SpanInside s at k (Ok p) = LeafInside s at k p.start p.size
SpanInside s at k (Err fault) = Unit {0}

module _ {A : Type 0} (P : Result A Fault → Type 0) where
  by-test : (b : Bool) (x y : Result A Fault) → (b ≡ true → P x) → (b ≡ false → P y) → P (cond b x y)
  by-test true x y g h = g refl
  by-test false x y g h = h refl

  by-size-found : (at : ℕ) (u : Result ℕ ReadError) (f : ℕ → Result A Fault) → ((n : ℕ) → Ok n ≡ u → P (f n)) → P (Err (placed ValueTruncated at))
      → P (on_size at u f)
  by-size-found at (Ok n) f g h = g n refl
  by-size-found at (Err why) f g h = h

-- a leaf's size, whether its marker tells it or bytes do
any-size : (k : Leaf) → not (tells_size k) ≡ true → (n : ℕ) → has_size k n ≡ true
any-size L.Null e n = refl
any-size L.Boolean e n = absurd (false≢true e)
any-size L.Integer e n = absurd (false≢true e)
any-size L.Float e n = absurd (false≢true e)
any-size L.Bytes e n = refl
any-size L.String e n = refl

module _ (s : List ℕ) (at : ℕ) (k : Leaf) (m : Marker) (sound : SoundLeaf k m) where
  size-held : (n : ℕ) (b : Bool) → eqb m.width 0 ≡ b → Ok n ≡ cond b (Ok m.size) (unsigned_at s (at + m.skip) m.width)
      → (has_size k n ≡ true) × (1 ≤ m.skip + m.width + n)
  size-held n true f e =
      let g : n ≡ m.size = cc e in
      (rw (f, ← g) at sound.sized, omega (arith, sound.reads))
  size-held n false f e = (any-size k (rw f at sound.sized) n, omega (arith, eqb-false m.width 0 f))

  inside-span : SpanInside s at k (leaf_span s at m)
  unfolding leaf_span
  inside-span =
      by-size-found (SpanInside s at k) at (size_at s at m) _
      (λ n e. by-test (SpanInside s at k) (reaches s (at + m.skip + m.width) n) _ _
      (λ r. let held = size-held n (eqb m.width 0) refl e in
      let more = held.1 in
      record { past = omega arith; inside = reaches-le s (at + m.skip + m.width) n r; sized = held.0 })
      (λ r. tt))
      tt

  inside-leaf : Inside s at (leaf_extent s at k m)
  inside-leaf = by (leaf_span s at m) inside-span
    where
      by : (r : Result Span Fault) → SpanInside s at k r → Inside s at (as_leaf k r)
      by (Ok p) h = h
      by (Err fault) h = tt

inside-container : (s : List ℕ) (at : ℕ) (k : Container) (m : Marker) → m.skip ≡ 1 → at < length s → Inside s at (container_extent s at k m)
unfolding container_extent
inside-container s at k m one h =
    by-size-found (Inside s at) at (size_at s at m) _
    (λ n e. record { past = omega arith; inside = size-inside s at m n e h (omega arith) })
    tt

string-only : (k : Leaf) → is_string k ≡ true → k ≡ L.String
string-only L.Null e = absurd (false≢true e)
string-only L.Boolean e = absurd (false≢true e)
string-only L.Integer e = absurd (false≢true e)
string-only L.Float e = absurd (false≢true e)
string-only L.Bytes e = absurd (false≢true e)
string-only L.String e = refl

module _ (s : List ℕ) (at : ℕ) where
  pub extent-inside : (depth : ℕ) → Inside s at (extent_at s depth at)
  unfolding extent_at
  extent-inside depth =
      by-test (Inside s at) (ltb at (length s)) _ _ (λ h. by (marker_of (get_or s at 0)).kind refl (ltb-true at (length s) h)) (λ h. tt)
    where
      by : (k : Kind) → (marker_of (get_or s at 0)).kind ≡ k → at < length s → Inside s at (kind_extent s depth at (marker_of (get_or s at 0)) k)
      by K.Reserved e h = tt
      by (K.Leaf k) e h = inside-leaf s at k (marker_of (get_or s at 0)) (sound-leaf (get_or s at 0) k e)
      by (K.Container k) e h =
          by-test (Inside s at) (eqb depth 0) _ _ (λ d. tt)
          (λ d. inside-container s at k (marker_of (get_or s at 0)) (sound-container (get_or s at 0) k e).skips h)

  pub key-inside : SpanInside s at L.String (key_extent_at s at)
  unfolding key_extent_at
  key-inside =
      by-test (SpanInside s at L.String) (ltb at (length s)) _ _ (λ h. by (marker_of (get_or s at 0)).kind refl) (λ h. tt)
    where
      by : (k : Kind) → (marker_of (get_or s at 0)).kind ≡ k → SpanInside s at L.String (key_kind_extent s at (marker_of (get_or s at 0)) k)
      by K.Reserved e = tt
      by (K.Leaf k) e =
          by-test (SpanInside s at L.String) (is_string k) _ _
          (λ f. inside-span s at L.String (marker_of (get_or s at 0)) (sound-leaf (get_or s at 0) L.String (e ∙ ap (λ (l : Leaf). K.Leaf l) (string-only k f))))
          (λ f. tt)
      by (K.Container k) e = tt

-- ---- what an extent tells, and what leads to it
-- a marker is there, of this kind, and its size is told
pub record Marked (s : List ℕ) (at : ℕ) (k : Kind) (m : Marker) (n : ℕ) : Type 0 where
  pub there : at < length s
  pub marker : m ≡ marker_of (get_or s at 0)
  pub kind : k ≡ m.kind
  pub size : Ok n ≡ size_at s at m

pub data ExtentTells (s : List ℕ) (depth at : ℕ) : Result Extent Fault → Type 0 where
  leaf : (k : Leaf) (m : Marker) (n : ℕ) → Marked s at (K.Leaf k) m n → at + m.skip + m.width + n ≤ length s
      → ExtentTells s depth at (Ok (E.Leaf k (at + m.skip + m.width) n))
  container : (k : Container) (m : Marker) (n : ℕ) → Marked s at (K.Container k) m n → 1 ≤ depth
      → ExtentTells s depth at (Ok (E.Container k (at + m.skip + m.width) n))
  none : (fault : Fault) → ExtentTells s depth at (Err fault)

module _ (s : List ℕ) (depth at : ℕ) where
  tells-leaf : (k : Leaf) (m : Marker) → at < length s → m ≡ marker_of (get_or s at 0) → K.Leaf k ≡ m.kind → ExtentTells s depth at (leaf_extent s at k m)
  unfolding leaf_span
  tells-leaf k m h e f =
      by-size-found (λ (r : Result Span Fault). ExtentTells s depth at (as_leaf k r)) at (size_at s at m) _
      (λ n g. by-test (λ (r : Result Span Fault). ExtentTells s depth at (as_leaf k r)) (reaches s (at + m.skip + m.width) n) _ _
      (λ r. leaf k m n (record { there = h; marker = e; kind = f; size = g }) (reaches-le s (at + m.skip + m.width) n r))
      (λ r. none (placed ValueTruncated at)))
      (none (placed ValueTruncated at))

  tells-container : (k : Container) (m : Marker) → at < length s → m ≡ marker_of (get_or s at 0) → K.Container k ≡ m.kind → 1 ≤ depth
      → ExtentTells s depth at (container_extent s at k m)
  unfolding container_extent
  tells-container k m h e f d =
      by-size-found (ExtentTells s depth at) at (size_at s at m) _
      (λ n g. container k m n (record { there = h; marker = e; kind = f; size = g }) d)
      (none (placed ValueTruncated at))

  pub extent-tells : ExtentTells s depth at (extent_at s depth at)
  unfolding extent_at
  extent-tells =
      by-test (ExtentTells s depth at) (ltb at (length s)) _ _ (λ h. by (marker_of (get_or s at 0)).kind refl (ltb-true at (length s) h))
      (λ h. none (missing s))
    where
      by : (k : Kind) → k ≡ (marker_of (get_or s at 0)).kind → at < length s
          → ExtentTells s depth at (kind_extent s depth at (marker_of (get_or s at 0)) k)
      by K.Reserved e h = none (placed ReservedMarker at)
      by (K.Leaf k) e h = tells-leaf k (marker_of (get_or s at 0)) h refl e
      by (K.Container k) e h =
          by-test (ExtentTells s depth at) (eqb depth 0) _ _ (λ d. none (placed TooDeep at))
          (λ d. tells-container k (marker_of (get_or s at 0)) h refl e (positive depth (eqb-false depth 0 d)))
        where
          positive : (n : ℕ) → (n ≡ 0 → ⊥) → 1 ≤ n
          positive n f = omega arith

  pub leaf-extent-is : (k : Leaf) (m : Marker) (n : ℕ) → Marked s at (K.Leaf k) m n → at + m.skip + m.width + n ≤ length s
      → Ok (E.Leaf k (at + m.skip + m.width) n) ≡ extent_at s depth at
  leaf-extent-is k m n w h =
      ap (λ (r : Result Span Fault). as_leaf k r) (leaf-there s at m n w.size h) ∙ by_kind s at w.there m w.marker depth (K.Leaf k) w.kind

  pub container-extent-is : (k : Container) (m : Marker) (n : ℕ) → Marked s at (K.Container k) m n → 1 ≤ depth
      → Ok (E.Container k (at + m.skip + m.width) n) ≡ extent_at s depth at
  container-extent-is k m n w d =
      container-there s at m n w.size k ∙ deep-enough s at w.there m w.marker depth k w.kind (positive d)
    where
      positive : 1 ≤ depth → depth ≡ 0 → ⊥
      positive d e = omega arith

-- ---- a key's extent is a String's
module _ (s : List ℕ) (at : ℕ) where
  pub key-extent-is : (m : Marker) (n : ℕ) → Marked s at (K.Leaf L.String) m n → at + m.skip + m.width + n ≤ length s
      → Ok (span (at + m.skip + m.width) n) ≡ key_extent_at s at
  key-extent-is m n w h = leaf-there s at m n w.size h ∙ by-key-kind s at w.there m w.marker (K.Leaf L.String) w.kind

  module _ (p : Span) (depth : ℕ) where
    abbrev AsString : Result Span Fault → Type 0
    AsString x = Ok p ≡ x → Ok (E.Leaf L.String p.start p.size) ≡ extent_at s depth at

    not-refused : (fault : Fault) → AsString (Err fault)
    not-refused fault e = cc e

    as-string : at < length s → (m : Marker) → m ≡ marker_of (get_or s at 0) → (j : Kind) → j ≡ m.kind → AsString (key_kind_extent s at m j)
    as-string h m g K.Reserved f = not-refused (placed ReservedMarker at)
    as-string h m g (K.Container j) f = not-refused (placed KeyNotString at)
    as-string h m g (K.Leaf j) f =
        by-test AsString (is_string j) _ _
        (λ i e. ap (λ (r : Result Span Fault). as_leaf L.String r) e
        ∙ by_kind s at h m g depth (K.Leaf L.String) (ap (λ (l : Leaf). K.Leaf l) (sym (string-only j i)) ∙ f))
        (λ i. not-refused (placed KeyNotString at))

    pub key-as-string : Ok p ≡ key_extent_at s at → Ok (E.Leaf L.String p.start p.size) ≡ extent_at s depth at
    unfolding key_extent_at
    key-as-string =
        by-test AsString (ltb at (length s)) _ _
        (λ h. as-string (ltb-true at (length s) h) (marker_of (get_or s at 0)) refl (marker_of (get_or s at 0)).kind refl)
        (λ h. not-refused (missing s))

-- ---- with no room left, no extent is a container's
abbrev pub Shut : Result Extent Fault → Type 0
Shut (Ok (E.Leaf k p n)) = Unit {0}
Shut (Ok (E.Container k p n)) = ⊥
Shut (Err fault) = Unit {0}

shut-leaf : (k : Leaf) (r : Result Span Fault) → Shut (as_leaf k r)
shut-leaf k (Ok p) = tt
shut-leaf k (Err fault) = tt

pub no_room : (s : List ℕ) (at : ℕ) → Shut (extent_at s 0 at)
unfolding extent_at
no_room s at = by-test Shut (ltb at (length s)) _ _ (λ h. by (marker_of (get_or s at 0)).kind) (λ h. tt)
  where
    by : (k : Kind) → Shut (kind_extent s 0 at (marker_of (get_or s at 0)) k)
    by K.Reserved = tt
    by (K.Leaf k) = shut-leaf k (leaf_span s at (marker_of (get_or s at 0)))
    by (K.Container k) = tt

-- a container found means that there was room for one
pub room_for : (s : List ℕ) (depth at : ℕ) (k : Container) (p n : ℕ) → Ok (E.Container k p n) ≡ extent_at s depth at → 1 ≤ depth
room_for s zero at k p n e = absurd (subst Shut (sym e) (no_room s at))
room_for s (suc depth) at k p n e = omega arith

-- ---- a container of bytes holds fewer than 2 to the 32 things
abbrev pub Counted : Result Extent Fault → Type 0
Counted (Ok (E.Leaf k p n)) = Unit {0}
Counted (Ok (E.Container k p n)) = n < 2 ^ 32
Counted (Err fault) = Unit {0}

counted-leaf : (k : Leaf) (r : Result Span Fault) → Counted (as_leaf k r)
counted-leaf k (Ok p) = tt
counted-leaf k (Err fault) = tt

counted-container : (s : List ℕ) (at : ℕ) (k : Container) (m : Marker) → Bytes s → SoundContainer m → Counted (container_extent s at k m)
unfolding container_extent
counted-container s at k m b sound = by-size-found Counted at (size_at s at m) _ (λ n e. by n (eqb m.width 0) refl e) tt
  where
    by : (n : ℕ) (t : Bool) → eqb m.width 0 ≡ t → Ok n ≡ cond t (Ok m.size) (unsigned_at s (at + m.skip) m.width) → n < 2 ^ 32
    by n true f e = let g : n ≡ m.size = cc e in omega (arith, sound.small)
    by n false f e =
        let found = unsigned-found s (at + m.skip) m.width n e in
        let lt = lies-lt s (at + m.skip) m.width b found.1 in
        omega (arith, found.0, pow256-mono m.width 4 sound.wide)

pub count-bound : (s : List ℕ) (depth at : ℕ) (k : Container) (p n : ℕ) → Bytes s → Ok (E.Container k p n) ≡ extent_at s depth at → n < 2 ^ 32
count-bound s depth at k p n b e = subst Counted (sym e) counted
  where
    by : (j : Kind) → (marker_of (get_or s at 0)).kind ≡ j → Counted (kind_extent s depth at (marker_of (get_or s at 0)) j)
    by K.Reserved e = tt
    by (K.Leaf j) e = counted-leaf j (leaf_span s at (marker_of (get_or s at 0)))
    by (K.Container j) e =
        by-test Counted (eqb depth 0) _ _ (λ d. tt) (λ d. counted-container s at j (marker_of (get_or s at 0)) b (sound-container (get_or s at 0) j e))

    counted : Counted (extent_at s depth at)
    counted = unfold extent_at in by-test Counted (ltb at (length s)) _ _ (λ h. by (marker_of (get_or s at 0)).kind refl) (λ h. tt)
