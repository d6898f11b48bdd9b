-- Laws of the packers: widths, what stands behind a marker, and which answer is given. Assumes nothing.
use mathlib.Core.Path.{◌≡◌, refl, sym, ap, ◌∙◌}
use mathlib.Core.Bool.{Bool, true, false, not, cond, and-eq-true_iff}
use mathlib.Core.List.{List, [], ◌∷◌}
use Prim.Native.Nat.{ℕ, ◌+◌, ◌^◌, ◌≤◌, ◌<◌}
use native.Mathlib.Numerals.{add-one}
use native.Mathlib.Omega.{arith}
use lib.Dec.{ltb, leb, eqb}
use lib.IntN.{ℤ, pos, negsuc}
use lib.ListN.{length, set, length-set, length-append}
use lib.Seq.{sets, length-sets, take-length}
use borrow.Author.Tests.{lt-ltb, le-ltb, leb-true}
use mir.Syntax.{w64}
use mir.Val.{SFits}
use Rattle.slices.specs.Parts.{reaches, fits, copied}
use Rattle.slices.proofs.Parts.{reaches-yes, sets-append, fits-yes as both-reach}
use Rattle.numbers.specs.BigEndian.{bytes_of, holds}
use Rattle.numbers.specs.TwosComplement.{bits_of, fits_in}
use Rattle.numbers.specs.Access.{is_width, storing, stored}
use Rattle.numbers.specs.declared.WriteError.{WriteError}
use Rattle.numbers.proofs.BigEndian.{length-bytes_of}
use Rattle.numbers.proofs.TwosComplement.{fits-yes}
use Rattle.numbers.proofs.Access.{every-width, failed, passed, storing-written}
use Rattle.utf8.specs.Utf8.{utf8}
use Rattle.refusal.specs.Answer.{Answer, returned, left, told}
use Rattle.refusal.specs.declared.Refusal.{Refusal}
use Rattle.refusal.specs.declared.Refusal.TheVariants.{NoRoom}
use Rattle.bolt.specs.Limits.{most_bytes}
use Rattle.packing.specs.Packing.{narrowest, doublings, wide, is_tiny, integer_width, pack_integer, size_width, size_header, header_length, pack_boolean, string_header, pack_string, string_form, fitted, leaves, telling}
use Rattle.std.specs.Prelude.{Result, Ok, Err}

-- ---- the narrowest width that will do
module _ (f : ℕ → Bool) where
  pub is-1 : f 1 ≡ true → narrowest f ≡ 1
  unfolding narrowest
  is-1 a = rw a

  pub is-2 : f 1 ≡ false → f 2 ≡ true → narrowest f ≡ 2
  unfolding narrowest
  is-2 a b = rw (a, b)

  pub is-4 : f 1 ≡ false → f 2 ≡ false → f 4 ≡ true → narrowest f ≡ 4
  unfolding narrowest
  is-4 a b c = rw (a, b, c)

  pub is-8 : f 1 ≡ false → f 2 ≡ false → f 4 ≡ false → narrowest f ≡ 8
  unfolding narrowest
  is-8 a b c = rw (a, b, c)

  -- what holds of each of the four, by the tests that lead there
  pub by-narrowest : (P : ℕ → Type 0) → (f 1 ≡ true → P 1) → (f 2 ≡ true → P 2) → (f 4 ≡ true → P 4) → (f 4 ≡ false → P 8) → P (narrowest f)
  by-narrowest P p1 p2 p4 p8 = by (f 1) (f 2) (f 4) refl refl refl
    where
      by : (a b c : Bool) → f 1 ≡ a → f 2 ≡ b → f 4 ≡ c → P (narrowest f)
      by true b c e g h = rw (is-1 e) (p1 e)
      by false true c e g h = rw (is-2 e g) (p2 g)
      by false false true e g h = rw (is-4 e g h) (p4 h)
      by false false false e g h = rw (is-8 e g h) (p8 h)

  pub narrowest-width : is_width (narrowest f) ≡ true
  narrowest-width = by-narrowest (λ (w : ℕ). is_width w ≡ true) (λ _. refl) (λ _. refl) (λ _. refl) (λ _. refl)

  -- it will do, if 8 will
  pub narrowest-does : f 8 ≡ true → f (narrowest f) ≡ true
  narrowest-does e = by-narrowest (λ (w : ℕ). f w ≡ true) (λ a. a) (λ a. a) (λ a. a) (λ _. e)

pub narrowest-most : (f : ℕ → Bool) → narrowest f ≤ 8
narrowest-most f =
    by-narrowest f (λ (w : ℕ). w ≤ 8) (λ _. omega arith) (λ _. omega arith) (λ _. omega arith) (λ _. omega arith)

-- none that will do is narrower
pub narrowest-least : (f : ℕ → Bool) (k : ℕ) → is_width k ≡ true → f k ≡ true → narrowest f ≤ k
narrowest-least f = every-width (λ (k : ℕ). f k ≡ true → narrowest f ≤ k) one two four (λ _. narrowest-most f)
  where
    one : f 1 ≡ true → narrowest f ≤ 1
    one e = rw (is-1 f e) (omega arith)

    two : f 2 ≡ true → narrowest f ≤ 2
    two e = by (f 1) refl
      where
        by : (b : Bool) → f 1 ≡ b → narrowest f ≤ 2
        by true a = omega (arith, one a)
        by false a = rw (is-2 f a e) (omega arith)

    four : f 4 ≡ true → narrowest f ≤ 4
    four e = by (f 1) (f 2) refl refl
      where
        by : (b c : Bool) → f 1 ≡ b → f 2 ≡ c → narrowest f ≤ 4
        by true c a g = omega (arith, one a)
        by false true a g = omega (arith, two g)
        by false false a g = rw (is-4 f a g e) (omega arith)

pub doublings-most : (w : ℕ) → doublings w ≤ 3
unfolding doublings
doublings-most w = by (eqb w 1) (eqb w 2) (eqb w 4)
  where
    by : (a b c : Bool) → cond a 0 (cond b 1 (cond c 2 3)) ≤ 3
    by true b c = omega arith
    by false true c = omega arith
    by false false true = omega arith
    by false false false = omega arith

-- ---- Integers
-- a byte holds one of -16 to 127
module _ (z : ℤ) where
  pub tiny-fits : is_tiny z ≡ true → fits_in 1 z ≡ true
  tiny-fits e = by z e
    where
      by : (z : ℤ) → is_tiny z ≡ true → fits_in 1 z ≡ true
      by (pos n) e = fits-yes 1 (pos n) (omega (arith, leb-true n 127 e))
      by (negsuc n) e = fits-yes 1 (negsuc n) (omega (arith, leb-true n 15 ((and-eq-true_iff (leb n 15) true).0 e).0))

-- eight bytes hold every i64
pub fits-i64 : (z : ℤ) → SFits w64 z → fits_in 8 z ≡ true
fits-i64 z f = fits-yes 8 z (omega (arith, f.sfits))

-- ---- the two forms, and their lengths
module _ (z : ℤ) where
  pub integer-tiny : is_tiny z ≡ true → pack_integer z ≡ bytes_of 1 (bits_of 1 z)
  unfolding pack_integer
  integer-tiny e = rw e

  pub integer-wide : is_tiny z ≡ false → pack_integer z ≡ wide 0xC8 (integer_width z) (bits_of (integer_width z) z)
  unfolding pack_integer
  integer-wide e = rw e

module _ (small row n : ℕ) where
  pub header-small : n < 16 → size_header small row n ≡ (small + n) ∷ []
  unfolding size_header
  header-small h = rw (lt-ltb n 16 h)

  pub header-wide : 16 ≤ n → size_header small row n ≡ wide row (size_width n) n
  unfolding size_header
  header-wide h = rw (le-ltb n 16 h)

pub length-wide : (row w n : ℕ) → length (wide row w n) ≡ 1 + w
length-wide row w n = omega (arith, length-bytes_of w n)

pub length-tiny : (z : ℤ) → is_tiny z ≡ true → length (pack_integer z) ≡ 1
length-tiny z e = ap length (integer-tiny z e) ∙ length-bytes_of 1 (bits_of 1 z)

pub length-integer : (z : ℤ) → is_tiny z ≡ false → length (pack_integer z) ≡ 1 + integer_width z
length-integer z e = ap length (integer-wide z e) ∙ length-wide 0xC8 (integer_width z) (bits_of (integer_width z) z)

pub length_header : (small row n : ℕ) → length (size_header small row n) ≡ header_length n
unfolding size_header
length_header small row n = by (ltb n 16)
  where
    by : (b : Bool) → length (cond b ((small + n) ∷ []) (wide row (size_width n) n)) ≡ cond b 1 (1 + size_width n)
    by true = refl
    by false = length-wide row (size_width n) n

pub header-most : (n : ℕ) → header_length n ≤ 9
header-most n = by (ltb n 16)
  where
    by : (b : Bool) → cond b 1 (1 + size_width n) ≤ 9
    by true = omega arith
    by false = omega (arith, narrowest-most (λ w. holds w n))

pub length-boolean : (b : Bool) → 1 ≡ length (pack_boolean b)
length-boolean true = refl
length-boolean false = refl

-- ---- what a write leaves
-- a number that its width holds, where there is room
pub written : (held : Bool) (d : List ℕ) (at w : ℕ) (v : List ℕ) (r : Result Unit WriteError) (e : List ℕ) → held ≡ true → is_width w ≡ true → at + w ≤ length d
    → r ≡ storing held d at w → e ≡ stored r d at v → e ≡ sets d at v
written held d at w v r e h k room p q =
    q ∙ ap (λ (x : Result Unit WriteError). stored x d at v) (p ∙ sym (storing-written held d at w h (record { width = k; inside = room })))

-- the same behind its marker
pub behind : (held : Bool) (d : List ℕ) (at m w : ℕ) (v : List ℕ) (r : Result Unit WriteError) (e : List ℕ) → held ≡ true → is_width w ≡ true
    → at + (1 + w) ≤ length d → r ≡ storing held (set d at m) (at + 1) w → e ≡ stored r (set d at m) (at + 1) v → e ≡ sets d at (m ∷ v)
behind held d at m w v r e h k room p q =
    written held (set d at m) (at + 1) w v r e h k (omega (arith, length-set d at m)) p q
    ∙ ap (λ (i : ℕ). sets (set d at m) i v) (add-one at)

-- an Integer in its own byte, and behind its marker
module _ (z : ℤ) (d : List ℕ) (at : ℕ) (r : Result Unit WriteError) (e : List ℕ) (room : at + length (pack_integer z) ≤ length d) where
  pub tiny-put : is_tiny z ≡ true → r ≡ storing (fits_in 1 z) d at 1 → e ≡ stored r d at (bytes_of 1 (bits_of 1 z)) → e ≡ sets d at (pack_integer z)
  tiny-put t p q =
      written (fits_in 1 z) d at 1 (bytes_of 1 (bits_of 1 z)) r e (tiny-fits z t) refl (omega (arith, length-tiny z t)) p q
      ∙ ap (λ (v : List ℕ). sets d at v) (sym (integer-tiny z t))

  pub wide-put : (w : ℕ) → w ≡ integer_width z → is_tiny z ≡ false → fits_in 8 z ≡ true
      → r ≡ storing (fits_in w z) (set d at (0xC8 + doublings w)) (at + 1) w
      → e ≡ stored r (set d at (0xC8 + doublings w)) (at + 1) (bytes_of w (bits_of w z)) → e ≡ sets d at (pack_integer z)
  wide-put w o t h p q =
      let f : ℕ → Bool = λ k. fits_in k z in
      behind (fits_in w z) d at (0xC8 + doublings w) w (bytes_of w (bits_of w z)) r e (rw o (narrowest-does f h)) (rw o (narrowest-width f)) (omega (arith, length-integer z t, o)) p q
      ∙ ap (λ (v : List ℕ). sets d at v) (ap (λ (k : ℕ). wide 0xC8 k (bits_of k z)) o ∙ sym (integer-wide z t))

-- the header of a size
module _ (small row n : ℕ) (d : List ℕ) (at : ℕ) (room : at + length (size_header small row n) ≤ length d) where
  pub small-room : n < 16 → at < length d
  small-room h = omega (arith, ap length (header-small small row n h))

  pub small_put : n < 16 → set d at (small + n) ≡ sets d at (size_header small row n)
  small_put h = rw (header-small small row n h)

  module _ (w : ℕ) (o : w ≡ size_width n) (h : 16 ≤ n) where
    pub wide_room : at + (1 + w) ≤ length d
    wide_room = omega (arith, ap length (header-wide small row n h) ∙ length-wide row (size_width n) n, o)

    pub header-put : (r : Result Unit WriteError) (e : List ℕ) → n < 256 ^ 8 → r ≡ storing (holds w n) (set d at (row + doublings w)) (at + 1) w
        → e ≡ stored r (set d at (row + doublings w)) (at + 1) (bytes_of w n) → e ≡ sets d at (size_header small row n)
    header-put r e l p q =
        let f : ℕ → Bool = λ k. holds k n in
        behind (holds w n) d at (row + doublings w) w (bytes_of w n) r e (rw o (narrowest-does f (lt-ltb n (256 ^ 8) l))) (rw o (narrowest-width f)) wide_room p q
        ∙ ap (λ (v : List ℕ). sets d at v) (ap (λ (k : ℕ). wide row k n) o ∙ sym (header-wide small row n h))

-- a String behind its header
module _ (v : List ℕ) (h : ℕ) (o : h ≡ header_length (length v)) where
  header_is : h ≡ length (string_header (length v))
  header_is = o ∙ sym (length_header 0x80 0xD0 (length v))

  pub length-string : h + length v ≡ length (pack_string v)
  length-string = ap (λ (n : ℕ). n + length v) header_is ∙ sym (length-append (string_header (length v)) v)

  module _ (d : List ℕ) (at : ℕ) where
    pub string-put : (c e : List ℕ) → at + (h + length v) ≤ length d → c ≡ sets d at (string_header (length v)) → e ≡ copied v 0 (length v) c (at + h)
        → e ≡ sets d at (pack_string v)
    string-put c e room p q =
        let f = sets d at (string_header (length v)) in
        let l : length f ≡ length d = length-sets d at (string_header (length v)) in
        let y : fits v 0 (length v) f (at + h) ≡ true = both-reach v 0 (length v) f (at + h) (omega arith) (omega (arith, l, room)) in
        q ∙ rw (p, y, take-length v, header_is) (sets-append (string_header (length v)) v d at)

-- ---- which form, and which answer
module _ (v : List ℕ) where
  pub string-formed : length v ≤ most_bytes → utf8 v ≡ true → string_form v ≡ returned (pack_string v)
  string-formed h u = rw (le-ltb most_bytes (length v) h, u)

-- what a packer owes: its answer, and the buffer
abbrev pub Packs : List ℕ → ℕ → Answer (List ℕ) → Result ℕ Refusal → List ℕ → Type 0
Packs d at form r e = (told r ≡ telling at (fitted d at form)) × (e ≡ left (leaves at) (fitted d at form) d)

module _ (d : List ℕ) (at : ℕ) (form : Answer (List ℕ)) where
  -- the test for room, by the output's length k
  module _ (v : List ℕ) (k : ℕ) (t : Bool) (e : form ≡ returned v) (l : k ≡ length v) (q : t ≡ reaches d at k) where
    pub packs : (f : List ℕ) → not t ≡ false → f ≡ sets d at v → Packs d at form (Ok (at + k)) f
    packs f n p = let r = passed q n in rw (e, ← l, r) (ap (λ (n : ℕ). returned (at + n)) l, p)

-- for callers: where there is room, the bytes stand there, and the answer is the offset past them
pub packed-there : (d : List ℕ) (at : ℕ) (form : Answer (List ℕ)) (r : Result ℕ Refusal) (e v : List ℕ) → Packs d at form r e → form ≡ returned v
    → at + length v ≤ length d → (r ≡ Ok (at + length v)) × (e ≡ sets d at v)
packed-there d at form r e v p f room =
    let y : reaches d at (length v) ≡ true = reaches-yes d at (length v) room in
    let t : told r ≡ returned (at + length v) = rw (f, y) at p.0 in
    (to r t, rw (f, y) at p.1)
  where
    to : {n : ℕ} (r : Result ℕ Refusal) → told r ≡ returned n → r ≡ Ok n
    to (Ok end) t = cc
    to (Err why) t = let z : ◌≡◌ {A = ℕ} 0 1 = cc in absurd (never z)
      where
        never : ◌≡◌ {A = ℕ} 0 1 → ⊥
        never z = omega arith
