-- Laws of the markers: the table by ranges, and the code's way by bits. Assumes nothing.
use mathlib.Core.Path.{◌≡◌, refl, sym, ap, ◌∙◌}
use mathlib.Core.Logic.{⊎_elim}
use mathlib.Core.Bool.{Bool, true, false, not, cond, ◌&&◌, and-false, and-eq-true_iff}
use mathlib.Core.List.{List, [], ◌∷◌}
use Prim.Native.Nat.{ℕ, zero, suc, ◌+◌, ◌-◌, ◌*◌, ◌/◌, ◌%◌, ◌^◌, ◌≤◌, ◌<◌}
use native.Mathlib.Nat.{le_of_suc-le-suc, not-suc-le-zero, eq-or-lt_of_le}
use native.Mathlib.Omega.{arith}
use lib.Bits.{bit_and, and_mask}
use lib.Dec.{ltb, leb, eqb}
use borrow.Author.Tests.{eq-eqb, ne_eqb, ltb-true, leb-true, eqb-true, lt-leb}
use Rattle.slices.proofs.Below.{below}
use Rattle.slices.proofs.Tests.{lt-or-ge}
use Rattle.markers.specs.Marker.{reserved, itself, small, sized, Row, table, lookup, marker_of}
use Rattle.markers.specs.Private.Sizes.{has_size}
use Rattle.markers.specs.declared.kind.Leaf.{Leaf}
use Rattle.markers.specs.declared.kind.Leaf.TheVariants as L
use Rattle.markers.specs.declared.kind.Container.{Container}
use Rattle.markers.specs.declared.kind.Container.TheVariants as C
use Rattle.markers.specs.declared.marker.Kind.{Kind}
use Rattle.markers.specs.declared.marker.Kind.TheVariants as K
use Rattle.markers.specs.declared.marker.Marker.{Marker}

-- ---- two functions that agree on the computed table of every number below n agree at each
unfoldable pub tabulate : {A : Type 0} → (ℕ → A) → ℕ → List A
tabulate f zero = []
tabulate f (suc n) = f n ∷ tabulate f n

pub agree : {A : Type 0} (f g : ℕ → A) (n : ℕ) → tabulate f n ≡ tabulate g n → (k : ℕ) → k < n → f k ≡ g k
unfolding tabulate
agree f g zero e k h = absurd (not-suc-le-zero h)
agree f g (suc n) e k h =
    ⊎_elim (λ i. ap f i ∙ cc e ∙ sym (ap g i)) (λ l. agree f g n (cc e) k l) (eq-or-lt_of_le (le_of_suc-le-suc h))

-- ---- markers by their bits, as the code goes
-- a size of 1, 2 or 4 bytes
abbrev pub sized_by : Kind → ℕ → Marker
sized_by k width = cond (eqb width 8) reserved (sized k width 0)

-- a marker that would say that its size has 8 bytes is reserved
pub size-of-eight : (k : Kind) (width : ℕ) → width ≡ 8 → reserved ≡ sized_by k width
size-of-eight k width e = rw (eq-eqb width 8 e)

pub size-of-fewer : (k : Kind) (width : ℕ) → (width ≡ 8 → ⊥) → sized k width 0 ≡ sized_by k width
size-of-fewer k width e = rw (ne_eqb width 8 e)

-- C0 to C3 by the low two bits
abbrev pub constant_by : ℕ → Marker
constant_by low = cond (eqb low 0) (small (K.Leaf L.Null) 0) (cond (eqb low 1) (small (K.Leaf L.Float) 8) (itself L.Boolean 0))

-- C0 to DF by the bits above the low two, by these, and by the width that they give
abbrev pub wide_by : ℕ → ℕ → ℕ → Marker
wide_by high low width =
    cond (eqb high 0x30) (marker_of (0xC0 + low))
    (cond (eqb high 0x32) (small (K.Leaf L.Integer) width)
    (cond (eqb high 0x33) (sized_by (K.Leaf L.Bytes) width)
    (cond (eqb high 0x34) (sized_by (K.Leaf L.String) width)
    (cond (eqb high 0x35) (sized_by (K.Container C.List) width)
    (cond (eqb high 0x36) (sized_by (K.Container C.Dictionary) width)
    reserved)))))

-- all by the high and the low four bits; C0 to DF as above
abbrev pub split_by : ℕ → ℕ → ℕ → Marker
split_by high low m =
    cond (eqb high 8) (small (K.Leaf L.String) low)
    (cond (eqb high 9) (small (K.Container C.List) low)
    (cond (eqb high 10) (small (K.Container C.Dictionary) low)
    (cond (eqb high 11) (small (K.Container C.Structure) low)
    (cond (eqb high 12) (marker_of m)
    (cond (eqb high 13) (marker_of m)
    (cond (eqb high 14) reserved
    (itself L.Integer 0)))))))

pub by-constant : (low : ℕ) → low < 4 → (n : ℕ) → low ≡ n → constant_by n ≡ marker_of (0xC0 + low)
unfolding tabulate marker_of lookup
by-constant low h n e = ap constant_by (sym e) ∙ agree constant_by (λ k. marker_of (0xC0 + k)) 4 refl low h

-- one doubled as often as the low two bits say
abbrev pub width_by : ℕ → ℕ
width_by low = (1 * 2 ^ low) % 2 ^ 64

wide-table : (n : ℕ) → n < 32 → wide_by ((0xC0 + n) / 4) ((0xC0 + n) % 4) (width_by ((0xC0 + n) % 4)) ≡ marker_of (0xC0 + n)
unfolding tabulate marker_of lookup
wide-table n h =
    agree (λ k. wide_by ((0xC0 + k) / 4) ((0xC0 + k) % 4) (width_by ((0xC0 + k) % 4))) (λ k. marker_of (0xC0 + k)) 32 refl n h

pub by_wide : (m high : ℕ) → 0xC0 ≤ m → m ≤ 0xDF → m / 4 ≡ high → wide_by high (bit_and m 3) (width_by (bit_and m 3)) ≡ marker_of m
by_wide m high l u e =
    let n : 0xC0 + (m - 0xC0) ≡ m = omega arith in
    rw (and_mask m 2, ← e) (rw n at (wide-table (m - 0xC0) (omega arith)))

pub by-split : (m high : ℕ) → m < 256 → m / 16 ≡ high → split_by high (bit_and m 15) m ≡ marker_of m
unfolding tabulate marker_of lookup
by-split m high h e =
    rw (and_mask m 4, ← e) (agree (λ k. split_by (k / 16) (k % 16) k) marker_of 256 refl m h)

-- a small String's and a small Integer's marker
pub small-string : (m : ℕ) → m / 16 ≡ 8 → small (K.Leaf L.String) (bit_and m 15) ≡ marker_of m
small-string m e = by-split m 8 (omega (arith, e)) e

pub small-integer : (m : ℕ) → m < 0x80 → itself L.Integer 0 ≡ marker_of m
unfolding tabulate marker_of lookup
small-integer m h = agree (λ k. itself L.Integer 0) marker_of 0x80 refl m h

-- ---- what holds of every marker
-- the marker alone tells the size
abbrev pub tells_size : Leaf → Bool
tells_size L.Null = true
tells_size L.Boolean = true
tells_size L.Integer = true
tells_size L.Float = true
tells_size L.Bytes = false
tells_size L.String = false

sound_kind : Kind → Marker → Bool
sound_kind K.Reserved m = true
sound_kind (K.Leaf k) m = cond (eqb m.width 0) (has_size k m.size) (not (tells_size k)) && leb 1 (m.skip + (m.width + m.size))
sound_kind (K.Container k) m = eqb m.skip 1 && (leb m.width 4 && leb m.size 15)

sound : ℕ → Bool
sound b = leb (marker_of b).skip 1 && sound_kind (marker_of b).kind (marker_of b)

-- the table ends at FF
ends_below : ℕ → List Row → Bool
ends_below n [] = true
ends_below n (r ∷ rs) = ltb r.to n && ends_below n rs

past-rows : (n : ℕ) (rs : List Row) → ends_below n rs ≡ true → (m : ℕ) → n ≤ m → lookup rs m ≡ reserved
unfolding ends_below lookup
past-rows n [] e m h = refl
past-rows n (r ∷ rs) e m h =
    let both = (and-eq-true_iff (ltb r.to n) (ends_below n rs)).0 e in
    let l : r.to < n = ltb-true r.to n both.0 in
    rw (lt-leb m r.to (omega arith), and-false (leb r.from m)) (past-rows n rs both.1 m h)

sound-marker : (b : ℕ) → sound b ≡ true
unfolding sound sound_kind marker_of lookup ends_below
sound-marker b =
    ⊎_elim (λ (h : b < 256). below sound 256 refl b h)
    (λ (h : 256 ≤ b). ap (λ (m : Marker). leb m.skip 1 && sound_kind m.kind m) (past-rows 256 table refl b h))
    (lt-or-ge b 256)

-- at most one byte is skipped
pub skip-one : (b : ℕ) → (marker_of b).skip ≤ 1
unfolding sound
skip-one b =
    leb-true (marker_of b).skip 1 ((and-eq-true_iff (leb (marker_of b).skip 1) (sound_kind (marker_of b).kind (marker_of b))).0 (sound-marker b)).0

sound-as : (b : ℕ) (k : Kind) → (marker_of b).kind ≡ k → sound_kind k (marker_of b) ≡ true
unfolding sound
sound-as b k e =
    ap (λ (j : Kind). sound_kind j (marker_of b)) (sym e)
    ∙ ((and-eq-true_iff (leb (marker_of b).skip 1) (sound_kind (marker_of b).kind (marker_of b))).0 (sound-marker b)).1

-- a leaf's size is one that its kind has, and something is read
pub record SoundLeaf (k : Leaf) (m : Marker) : Type 0 where
  pub sized : cond (eqb m.width 0) (has_size k m.size) (not (tells_size k)) ≡ true
  pub reads : 1 ≤ m.skip + (m.width + m.size)

pub sound-leaf : (b : ℕ) (k : Leaf) → (marker_of b).kind ≡ K.Leaf k → SoundLeaf k (marker_of b)
unfolding sound_kind
sound-leaf b k e =
    let m = marker_of b in
    let both =
    (and-eq-true_iff (cond (eqb m.width 0) (has_size k m.size) (not (tells_size k))) (leb 1 (m.skip + (m.width + m.size)))).0
    (sound-as b (K.Leaf k) e) in
    record { sized = both.0; reads = leb-true 1 (m.skip + (m.width + m.size)) both.1 }

-- a container's marker is followed by its size or by what it holds
pub record SoundContainer (m : Marker) : Type 0 where
  pub skips : m.skip ≡ 1
  pub wide : m.width ≤ 4
  pub small : m.size ≤ 15

pub sound-container : (b : ℕ) (k : Container) → (marker_of b).kind ≡ K.Container k → SoundContainer (marker_of b)
unfolding sound_kind
sound-container b k e =
    let m = marker_of b in
    let both = (and-eq-true_iff (eqb m.skip 1) (leb m.width 4 && leb m.size 15)).0 (sound-as b (K.Container k) e) in
    let more = (and-eq-true_iff (leb m.width 4) (leb m.size 15)).0 both.1 in
    record { skips = eqb-true m.skip 1 both.0; wide = leb-true m.width 4 more.0; small = leb-true m.size 15 more.1 }
