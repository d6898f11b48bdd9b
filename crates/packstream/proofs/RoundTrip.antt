-- What is packed reads back: leaves, headers with what they hold, and so every value. Assumes nothing.
use mathlib.Core.Path.{◌≡◌, refl, sym, ap, ◌∙◌, subst}
use mathlib.Core.Logic.{⊎_elim}
use mathlib.Core.Bool.{Bool, true, false, false≢true, not, ◌&&◌, and-eq-true_iff}
use mathlib.Core.List.{List, [], ◌∷◌, ◌++◌, append_assoc}
use Prim.Native.Nat.{ℕ, zero, suc, ◌+◌, ◌-◌, ◌^◌, ◌≤◌, ◌<◌}
use native.Mathlib.Omega.{arith}
use borrow.Author.Tests.{lt-ltb, le-ltb, ltb-true, leb-true, eq-eqb, not-true}
use lib.Dec.{ltb, leb}
use lib.IntN.{ℤ, pos, negsuc}
use lib.ListN.{length, take, drop, length-append}
use lib.Seq.{sets, sets-eq, length-take-le}
use Rattle.slices.specs.Parts.{part}
use Rattle.slices.proofs.Tests.{lt-or-ge}
use Rattle.numbers.specs.BigEndian.{bytes_of, holds}
use Rattle.numbers.specs.TwosComplement.{bits_of, fits_in}
use Rattle.numbers.specs.Access.{is_width}
use Rattle.numbers.proofs.BigEndian.{length-bytes_of, bytes_of-one, read_back}
use Rattle.numbers.proofs.TwosComplement.{bits-lt}
use Rattle.numbers.proofs.Access.{every-width, width-least, holds-lt}
use Rattle.numbers.proofs.RoundTrip.{round_trip as of_width}
use Rattle.utf8.specs.Utf8.{utf8}
use Rattle.refusal.specs.Answer.{returned}
use Rattle.markers.specs.Value.{Value, null, boolean, integer, float, bytes, string, list, dictionary, structure, Items, no_items, item, count, Entries, no-entries, entry, count_entries, relocate, relocate_items, relocate_entries, forget}
use Rattle.markers.specs.Marker.{itself, fixed, small, sized, lookup, marker_of}
use Rattle.values.specs.Decode.{parsed, leaf_value, leaf_at, items, repeats, key_at, entries, value_at, value_in, message_of, decode}
use Rattle.markers.specs.Extents.{most_open}
use Rattle.bolt.specs.Limits.{most_bytes}
use Rattle.packing.specs.Packing.{doublings, wide, pack_boolean, pack_float, is_tiny, integer_width, pack_integer, size_width, size_header, pack_bytes, string_header, pack_string, list_header, dictionary_header, structure_header, pack, pack_items, pack_entries}
use Rattle.packstream.specs.RoundTrip.{valid_text, packable, packable_items, packable_entries, located, located_items, located_entries, Claim}
use Rattle.markers.specs.declared.kind.Leaf.TheVariants as L
use Rattle.markers.specs.declared.kind.Container.TheVariants as C
use Rattle.markers.specs.declared.marker.Kind.{Kind}
use Rattle.markers.specs.declared.marker.Kind.TheVariants as K
use Rattle.markers.proofs.Markers.{tabulate, agree}
use Rattle.packing.proofs.Packing.{by-narrowest, narrowest-width, narrowest-does, tiny-fits, integer-tiny, integer-wide, header-small, header-wide, length-wide}
use Rattle.packstream.proofs.Here.{Here, here, here-alone, here-room, here-part, here-front, here_back, here-inside, here-first, here-behind}
use Rattle.packstream.proofs.Headers.{Header, header-itself, header-behind, leaf-value, container-value, key-extent}

-- content that is there
content : {s : List ℕ} {at : ℕ} {v after : List ℕ} (n : ℕ) → Here s at v after → length v ≡ n → part s at n ≡ v
content {s} {at} n h e = ap (part s at) (sym e) ∙ here-part h

-- ---- headers
-- the markers of the kinds that have sizes: a small one, and the row of the wider ones
pub record Row (k : Kind) (row : ℕ) : Type 0 where
  pub in-1 : marker_of (row + 0) ≡ sized k 1 0
  pub in-2 : marker_of (row + 1) ≡ sized k 2 0
  pub in-4 : marker_of (row + 2) ≡ sized k 4 0

pub record Rows (k : Kind) (first row : ℕ) : Type 0 where
  pub tiny : (n : ℕ) → n < 16 → marker_of (first + n) ≡ small k n
  pub wider : Row k row

pub bytes-row : Row (K.Leaf L.Bytes) 0xCC
unfolding marker_of lookup
bytes-row = record { in-1 = refl; in-2 = refl; in-4 = refl }

pub string-rows : Rows (K.Leaf L.String) 0x80 0xD0
unfolding marker_of lookup tabulate
string-rows = record { tiny = agree (λ k. marker_of (0x80 + k)) _ 16 refl; wider = record { in-1 = refl; in-2 = refl; in-4 = refl } }

pub list-rows : Rows (K.Container C.List) 0x90 0xD4
unfolding marker_of lookup tabulate
list-rows = record { tiny = agree (λ k. marker_of (0x90 + k)) _ 16 refl; wider = record { in-1 = refl; in-2 = refl; in-4 = refl } }

pub dictionary-rows : Rows (K.Container C.Dictionary) 0xA0 0xD8
unfolding marker_of lookup tabulate
dictionary-rows = record { tiny = agree (λ k. marker_of (0xA0 + k)) _ 16 refl; wider = record { in-1 = refl; in-2 = refl; in-4 = refl } }

structure-tiny : (n : ℕ) → n < 16 → marker_of (0xB0 + n) ≡ small (K.Container C.Structure) n
unfolding marker_of lookup tabulate
structure-tiny = agree (λ k. marker_of (0xB0 + k)) _ 16 refl

-- a size of four bytes has a width of at most 4, and its marker says it
row-marker : {k : Kind} {row : ℕ} → Row k row → (n : ℕ) → holds 4 n ≡ true → marker_of (row + doublings (size_width n)) ≡ sized k (size_width n) 0
unfolding doublings
row-marker {k} {row} r n h =
    by-narrowest (λ w. holds w n) (λ (w : ℕ). marker_of (row + doublings w) ≡ sized k w 0) (λ _. r.in-1) (λ _. r.in-2) (λ _. r.in-4)
    (λ e. absurd (false≢true (sym e ∙ h)))

module _ {s : List ℕ} {at : ℕ} {after : List ℕ} {k : Kind} (n : ℕ) (h : holds 4 n ≡ true) where
  pub header-in-row : {row : ℕ} → Row k row → Here s at (wide row (size_width n) n) after → Header s at k n (at + length (wide row (size_width n) n))
  header-in-row {row} r w =
      let f : ℕ → Bool = λ w. holds w n in
      let l : n < 256 ^ 4 = holds-lt 4 n h in
      let big : n < 256 ^ 8 = omega arith in
      let e : at + 1 + size_width n ≡ at + length (wide row (size_width n) n) = omega (arith, length-wide row (size_width n) n) in
      subst (λ (p : ℕ). Header s at k n p) e
      (header-behind k (size_width n) n w (row-marker r n h) (narrowest-width f) (holds-lt (size_width n) n (narrowest-does f (lt-ltb n (256 ^ 8) big))))

  pub header-sized : {first row : ℕ} → Rows k first row → Here s at (size_header first row n) after → Header s at k n (at + length (size_header first row n))
  header-sized {first} {row} r w = ⊎_elim low high (lt-or-ge n 16)
    where
      low : n < 16 → Header s at k n (at + length (size_header first row n))
      low l = rw (header-small first row n l) (header-itself (small k n) (rw (header-small first row n l) at w) (r.tiny n l) refl)

      high : 16 ≤ n → Header s at k n (at + length (size_header first row n))
      high l = rw (header-wide first row n l) (header-in-row r.wider (rw (header-wide first row n l) at w))

-- ---- leaves
module _ {s : List ℕ} {at : ℕ} {after : List ℕ} (depth : ℕ) where
  read-null : Here s at (0xC0 ∷ []) after → value_at s depth at ≡ parsed null (at + 1)
  unfolding marker_of lookup leaf_at leaf_value
  read-null h =
      leaf-value L.Null depth (header-itself (fixed L.Null 0 0) h refl refl) (omega (arith, here-room h)) ∙ ap (λ (e : ℕ). parsed null e) (omega arith)

  read-boolean : (b : Bool) → Here s at (pack_boolean b) after → value_at s depth at ≡ parsed (boolean b) (at + length (pack_boolean b))
  unfolding marker_of lookup leaf_at leaf_value
  read-boolean true h =
      let z : at + 0 ≡ at = omega arith in
      leaf-value L.Boolean depth (header-itself (itself L.Boolean 0) h refl refl) (omega (arith, here-room h)) ∙ rw (z, here-first h) refl
  read-boolean false h =
      let z : at + 0 ≡ at = omega arith in
      leaf-value L.Boolean depth (header-itself (itself L.Boolean 0) h refl refl) (omega (arith, here-room h)) ∙ rw (z, here-first h) refl

  read_float : (bits : ℕ) → holds 8 bits ≡ true → Here s at (pack_float bits) after → value_at s depth at ≡ parsed (float bits) (at + length (pack_float bits))
  unfolding marker_of lookup leaf_at leaf_value
  read_float bits b h =
      let l : length (bytes_of 8 bits) ≡ 8 = length-bytes_of 8 bits in
      let e : at + 1 + 8 ≡ at + length (pack_float bits) = omega arith in
      leaf-value L.Float depth (header-itself (fixed L.Float 8 0) h refl refl) (omega (arith, here-room h))
      ∙ rw (content 8 (here-behind h) l, read_back 8 bits (holds-lt 8 bits b), e) refl

-- the markers of Integers
tiny-marker : (z : ℤ) → is_tiny z ≡ true → marker_of (bits_of 1 z) ≡ itself L.Integer 0
unfolding marker_of lookup tabulate bits_of
tiny-marker (pos n) e = agree marker_of (λ _. itself L.Integer 0) 128 refl n (omega (arith, leb-true n 127 e))
tiny-marker (negsuc n) e =
    agree (λ k. marker_of (256 - suc k)) (λ _. itself L.Integer 0) 16 refl n (omega (arith, leb-true n 15 ((and-eq-true_iff (leb n 15) true).0 e).0))

wide-marker : (w : ℕ) → is_width w ≡ true → marker_of (0xC8 + doublings w) ≡ fixed L.Integer w 0
unfolding marker_of lookup doublings
wide-marker w e = every-width (λ (w : ℕ). marker_of (0xC8 + doublings w) ≡ fixed L.Integer w 0) refl refl refl refl w e

module _ {s : List ℕ} {at : ℕ} {after : List ℕ} (depth : ℕ) (z : ℤ) where
  pub read-tiny : is_tiny z ≡ true → Here s at (bytes_of 1 (bits_of 1 z)) after
      → value_at s depth at ≡ parsed (integer z) (at + length (bytes_of 1 (bits_of 1 z)))
  unfolding leaf_at leaf_value
  read-tiny t h =
      let f : fits_in 1 z ≡ true = tiny-fits z t in
      let b : bytes_of 1 (bits_of 1 z) ≡ bits_of 1 z ∷ [] = bytes_of-one (bits_of 1 z) (bits-lt 1 z f) in
      let l : length (bytes_of 1 (bits_of 1 z)) ≡ 1 = length-bytes_of 1 (bits_of 1 z) in
      let o : at + 0 ≡ at = omega arith in
      leaf-value L.Integer depth (header-itself (itself L.Integer 0) (rw b at h) (tiny-marker z t) refl) (omega (arith, here-room h, l))
      ∙ rw (o, content 1 h l, (of_width 1).signed (omega arith) z f, l) refl

  pub read_wide : (w : ℕ) → is_width w ≡ true → fits_in w z ≡ true → Here s at (wide 0xC8 w (bits_of w z)) after
      → value_at s depth at ≡ parsed (integer z) (at + length (wide 0xC8 w (bits_of w z)))
  unfolding leaf_at leaf_value
  read_wide w v f h =
      let l : length (bytes_of w (bits_of w z)) ≡ w = length-bytes_of w (bits_of w z) in
      let e : at + 1 + w ≡ at + length (wide 0xC8 w (bits_of w z)) = omega arith in
      leaf-value L.Integer depth (header-itself (fixed L.Integer w 0) h (wide-marker w v) refl) (omega (arith, here-room h, l))
      ∙ rw (content w (here-behind h) l, (of_width w).signed (width-least w v) z f, e) refl

  pub read-integer : fits_in 8 z ≡ true → Here s at (pack_integer z) after → value_at s depth at ≡ parsed (integer z) (at + length (pack_integer z))
  read-integer f h = by (is_tiny z) refl
    where
      by : (b : Bool) → is_tiny z ≡ b → value_at s depth at ≡ parsed (integer z) (at + length (pack_integer z))
      by true t = rw (integer-tiny z t) (read-tiny t (rw (integer-tiny z t) at h))
      by false t =
          let g : ℕ → Bool = λ w. fits_in w z in
          rw (integer-wide z t) (read_wide (integer_width z) (narrowest-width g) (narrowest-does g f) (rw (integer-wide z t) at h))

-- past one thing and the next
past : (at : ℕ) (u v : List ℕ) → at + length u + length v ≡ at + length (u ++ v)
past at u v = omega (arith, length-append u v)

module _ {s : List ℕ} {at : ℕ} {after : List ℕ} (v : List ℕ) where
  pub read-bytes : (depth : ℕ) → holds 4 (length v) ≡ true → Here s at (pack_bytes v) after
      → value_at s depth at ≡ parsed (bytes (at + length (wide 0xCC (size_width (length v)) (length v))) v) (at + length (pack_bytes v))
  unfolding leaf_at leaf_value
  read-bytes depth b h =
      let header = wide 0xCC (size_width (length v)) (length v) in
      let w = here_back header v h in
      leaf-value L.Bytes depth (header-in-row (length v) b bytes-row (here-front header v h)) (here-room w)
      ∙ rw (here-part w, past at header v) refl

  pub read-string : (depth : ℕ) → valid_text v ≡ true → Here s at (pack_string v) after
      → value_at s depth at ≡ parsed (string (at + length (string_header (length v))) v) (at + length (pack_string v))
  unfolding leaf_at leaf_value
  read-string depth t h =
      let header = string_header (length v) in
      let w = here_back header v h in
      let b = (and-eq-true_iff (holds 4 (length v)) (utf8 v)).0 t in
      leaf-value L.String depth (header-sized (length v) b.0 string-rows (here-front header v h)) (here-room w)
      ∙ rw (here-part w, b.1, past at header v) refl

  -- a key
  pub read-key : (seen : List (List ℕ)) → valid_text v ≡ true → repeats v seen ≡ false → Here s at (pack_string v) after
      → key_at s seen at ≡ parsed (record { start = at + length (string_header (length v)); content = v }) (at + length (pack_string v))
  unfolding key_at
  read-key seen t r h =
      let header = string_header (length v) in
      let w = here_back header v h in
      let b = (and-eq-true_iff (holds 4 (length v)) (utf8 v)).0 t in
      rw (key-extent (header-sized (length v) b.0 string-rows (here-front header v h)) (here-room w)) (rw (here-part w, b.1, r, past at header v) refl)

-- ---- headers with what they hold
-- a container that is read behind its header, where it ends
module _ {s : List ℕ} {at : ℕ} {after : List ℕ} (depth n : ℕ) (held : List ℕ) where
  pub read-list : {vs : Items} → holds 4 n ≡ true → Here s at (list_header n ++ held) after
      → items (λ p. value_at s depth p) n (at + length (list_header n)) ≡ parsed vs (at + length (list_header n) + length held)
      → value_at s (suc depth) at ≡ parsed (list vs) (at + length (list_header n ++ held))
  read-list b h e =
      container-value C.List depth (header-sized n b list-rows (here-front (list_header n) held h)) ∙ rw (e, past at (list_header n) held) refl

  pub read-dictionary : {es : Entries} → holds 4 n ≡ true → Here s at (dictionary_header n ++ held) after
      → entries s (λ p. value_at s depth p) [] n (at + length (dictionary_header n)) ≡ parsed es (at + length (dictionary_header n) + length held)
      → value_at s (suc depth) at ≡ parsed (dictionary es) (at + length (dictionary_header n ++ held))
  read-dictionary b h e =
      container-value C.Dictionary depth (header-sized n b dictionary-rows (here-front (dictionary_header n) held h))
      ∙ rw (e, past at (dictionary_header n) held) refl

  pub read-structure : {vs : Items} (tag : ℕ) → n < 16 → Here s at (structure_header tag n ++ held) after
      → items (λ p. value_at s depth p) n (at + 2) ≡ parsed vs (at + 2 + length held)
      → value_at s (suc depth) at ≡ parsed (structure tag vs) (at + length (structure_header tag n ++ held))
  read-structure tag b h e =
      let t = here-behind h in
      let two : at + 1 + 1 ≡ at + 2 = omega arith in
      container-value C.Structure depth (header-itself (small (K.Container C.Structure) n) h (structure-tiny n b) refl)
      ∙ rw (lt-ltb (at + 1) (length s) (here-inside t), here-first t, two, e, past at (structure_header tag n) held) refl

-- ---- every value
mutual
  unfolding pack pack_items pack_entries packable packable_items packable_entries located located_items located_entries count count_entries items entries

  pub read-value : (v : Value) {s : List ℕ} {at : ℕ} {after : List ℕ} (depth : ℕ) → packable depth v ≡ true → Here s at (pack v) after
      → value_at s depth at ≡ parsed (located at v) (at + length (pack v))
  read-value null depth p h = read-null depth h
  read-value (boolean b) depth p h = read-boolean depth b h
  read-value (integer z) depth p h = read-integer depth z p h
  read-value (float bits) depth p h = read_float depth bits p h
  read-value (bytes start v) depth p h = read-bytes v depth p h
  read-value (string start v) depth p h = read-string v depth p h
  read-value (list vs) zero p h = absurd (false≢true p)
  read-value (list vs) (suc depth) p h =
      let b = (and-eq-true_iff (holds 4 (count vs)) (packable_items depth vs)).0 p in
      read-list depth (count vs) (pack_items vs) b.0 h (read-items vs depth b.1 (here_back (list_header (count vs)) (pack_items vs) h))
  read-value (dictionary es) zero p h = absurd (false≢true p)
  read-value (dictionary es) (suc depth) p h =
      let b = (and-eq-true_iff (holds 4 (count_entries es)) (packable_entries depth [] es)).0 p in
      read-dictionary depth (count_entries es) (pack_entries es) b.0 h
      (read-entries es depth [] b.1 (here_back (dictionary_header (count_entries es)) (pack_entries es) h))
  read-value (structure tag vs) zero p h = absurd (false≢true p)
  read-value (structure tag vs) (suc depth) p h =
      let b = (and-eq-true_iff (ltb (count vs) 16) (packable_items depth vs)).0 p in
      read-structure depth (count vs) (pack_items vs) tag (ltb-true (count vs) 16 b.0) h
      (read-items vs depth b.1 (here_back (structure_header tag (count vs)) (pack_items vs) h))

  pub read-items : (vs : Items) {s : List ℕ} {at : ℕ} {after : List ℕ} (depth : ℕ) → packable_items depth vs ≡ true → Here s at (pack_items vs) after
      → items (λ p. value_at s depth p) (count vs) at ≡ parsed (located_items at vs) (at + length (pack_items vs))
  read-items no_items {at = at} depth p h = ap (λ (e : ℕ). parsed no_items e) (omega arith)
  read-items (item o v vs) {at = at} depth p h =
      let b = (and-eq-true_iff (packable depth v) (packable_items depth vs)).0 p in
      rw (read-value v depth b.0 (here-front (pack v) (pack_items vs) h))
      (rw (read-items vs depth b.1 (here_back (pack v) (pack_items vs) h), past at (pack v) (pack_items vs)) refl)

  pub read-entries : (es : Entries) {s : List ℕ} {at : ℕ} {after : List ℕ} (depth : ℕ) (seen : List (List ℕ)) → packable_entries depth seen es ≡ true
      → Here s at (pack_entries es) after
      → entries s (λ p. value_at s depth p) seen (count_entries es) at ≡ parsed (located_entries at es) (at + length (pack_entries es))
  read-entries no-entries {at = at} depth seen p h = ap (λ (e : ℕ). parsed no-entries e) (omega arith)
  read-entries (entry o start key place v es) {at = at} depth seen p h =
      let b = (and-eq-true_iff (valid_text key && not (repeats key seen)) (packable depth v && packable_entries depth (key ∷ seen) es)).0 p in
      let k = (and-eq-true_iff (valid_text key) (not (repeats key seen))).0 b.0 in
      let c = (and-eq-true_iff (packable depth v) (packable_entries depth (key ∷ seen) es)).0 b.1 in
      let w = here_back (pack_string key) (pack v ++ pack_entries es) h in
      rw (read-key key seen k.0 (not-true (repeats key seen) k.1) (here-front (pack_string key) (pack v ++ pack_entries es) h))
      (rw (read-value v depth c.0 (here-front (pack v) (pack_entries es) w))
      (rw (read-entries es depth (key ∷ seen) c.1 (here_back (pack v) (pack_entries es) w), past (at + length (pack_string key)) (pack v) (pack_entries es), past at (pack_string key) (pack v ++ pack_entries es)) refl))

-- offsets aside, a value is the same wherever it lies
mutual
  unfolding relocate relocate_items relocate_entries located located_items located_entries

  pub same-value : (v : Value) (at : ℕ) → forget (located at v) ≡ forget v
  same-value null at = refl
  same-value (boolean b) at = refl
  same-value (integer z) at = refl
  same-value (float bits) at = refl
  same-value (bytes start v) at = refl
  same-value (string start v) at = refl
  same-value (list vs) at = ap list (same-items vs (at + length (list_header (count vs))))
  same-value (dictionary es) at = ap dictionary (same_entries es (at + length (dictionary_header (count_entries es))))
  same-value (structure tag vs) at = ap (structure tag) (same-items vs (at + length (structure_header tag (count vs))))

  pub same-items : (vs : Items) (at : ℕ) → relocate_items (λ _. 0) (located_items at vs) ≡ relocate_items (λ _. 0) vs
  same-items no_items at = refl
  same-items (item o v vs) at = rw (same-value v at, same-items vs (at + length (pack v))) refl

  pub same_entries : (es : Entries) (at : ℕ) → relocate_entries (λ _. 0) (located_entries at es) ≡ relocate_entries (λ _. 0) es
  same_entries no-entries at = refl
  same_entries (entry o start key place v es) at =
      rw (same-value v (at + length (pack_string key)), same_entries es (at + length (pack_string key) + length (pack v))) refl

-- a value that is all of a message
pub read_whole : (l : List ℕ) (v : Value) → length l ≤ most_bytes → value_at l most_open 0 ≡ parsed v (0 + length l) → decode l ≡ returned v
unfolding message_of value_in
read_whole l v b e = rw (le-ltb most_bytes (length l) b, e, eq-eqb (0 + length l) (length l) (omega arith)) refl

module _ (v : Value) where
  there : (d : List ℕ) (at depth : ℕ) → packable depth v ≡ true → at + length (pack v) ≤ length d
      → value_at (sets d at (pack v)) depth at ≡ parsed (located at v) (at + length (pack v))
  there d at depth p room =
      let e : sets d at (pack v) ≡ take at d ++ (pack v ++ drop (at + length (pack v)) d) =
      sets-eq (pack v) d at room ∙ append_assoc (take at d) (pack v) (drop (at + length (pack v)) d) in
      let l : length (take at d) ≡ at = length-take-le at d (omega arith) in
      subst (λ (n : ℕ). value_at (sets d at (pack v)) depth n ≡ parsed (located n v) (n + length (pack v))) l
      (rw e (read-value v depth p (here (take at d) (pack v) (drop (at + length (pack v)) d))))

  alone : (depth : ℕ) → packable depth v ≡ true → value_at (pack v) depth 0 ≡ parsed (located 0 v) (0 + length (pack v))
  alone depth p = read-value v depth p (here-alone (pack v))

pub round_trip : Claim
round_trip v =
    record {
      read_back = λ before after depth p. read-value v depth p (here before (pack v) after);
      read-there = there v;
      decoded = λ p l. read_whole (pack v) (located 0 v) l (alone v most_open p);
      same = same-value v;
      distinct = λ w depth p q e. apart w depth p q e;
    }
  where
    apart : (w : Value) (depth : ℕ) → packable depth v ≡ true → packable depth w ≡ true → pack v ≡ pack w → forget v ≡ forget w
    apart w depth p q e =
        let f : parsed (located 0 v) (0 + length (pack v)) ≡ parsed (located 0 w) (0 + length (pack w)) =
        sym (alone v depth p) ∙ ap (λ (l : List ℕ). value_at l depth 0) e ∙ alone w depth q in
        let g : located 0 v ≡ located 0 w = cc in
        sym (same-value v 0) ∙ ap forget g ∙ same-value w 0
