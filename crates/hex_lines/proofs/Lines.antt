-- Laws of lines: digits and their values, one more pair of digits, and which answer is given. Assumes nothing.
use mathlib.Core.Path.{◌≡◌, refl, sym, ap, ap₂, ◌∙◌}
use mathlib.Core.Logic.{⊎_elim}
use mathlib.Core.Bool.{Bool, true, false, false≢true, not, cond, ◌&&◌, ◌||◌, and-false, and-true, and_assoc, and-eq-true_iff}
use mathlib.Core.List.{List, [], ◌∷◌}
use Prim.Native.Nat.{ℕ, zero, suc, ◌+◌, ◌*◌, ◌/◌, ◌%◌, ◌<◌, ◌≤◌}
use native.Mathlib.Numerals.{add-one}
use native.Mathlib.Omega.{arith}
use lib.Bits.{bit_or}
use lib.Dec.{eqb, ltb, leb}
use lib.ListN.{length, get_or, set, drop, length-drop, drop_of_length-le}
use lib.Seq.{drop-cons}
use borrow.Author.Tests.{le-leb, lt-leb, le-ltb, eq-eqb, ne_eqb, eqb-true, ltb-true, ltb-false}
use Rattle.slices.specs.Parts.{front}
use Rattle.slices.proofs.Below.{every, below}
use Rattle.slices.proofs.Pieces.{Put, put_next, put-done}
use Rattle.slices.proofs.Tests.{lt-or-ge}
use Rattle.refusal.specs.Answer.{returned, refused, counted}
use Rattle.hex_lines.specs.Hex.{is_digit, value_of, digit_of, all_digits, is_line, to_bytes, to_digits, into, decoding, encoding}

-- ---- digits
-- no character past 'F' is a digit
digit_lt : (c : ℕ) → is_digit c ≡ true → c < 71
unfolding is_digit
digit_lt c e =
    ⊎_elim (λ h. h)
    (λ h. absurd (false≢true (sym (simp (lt-leb c 0x39 (omega (arith, h)), lt-leb c 0x46 (omega (arith, h)), and-false)) ∙ e)))
    (lt-or-ge c 71)

-- a rule with a condition that holds
unless : (a b : Bool) → (not a || b) ≡ true → a ≡ true → b ≡ true
unless true b e t = e
unless false b e t = absurd (false≢true t)

-- what holds of a digit, and is computed at each: its value by its bits, which is below 16, and back from that value
rules : ℕ → Bool
rules c = eqb (c % 16 + 9 * (c / 64)) (value_of c) && (ltb (value_of c) 16 && eqb (digit_of (value_of c)) c)

digit_test : ℕ → Bool
digit_test c = not (is_digit c) || rules c

digits-tested : every digit_test 71 ≡ true
unfolding digit_test rules is_digit value_of digit_of
digits-tested = refl

module _ (c : ℕ) (d : is_digit c ≡ true) where
  ruled : rules c ≡ true
  unfolding digit_test
  ruled = unless (is_digit c) (rules c) (below digit_test 71 digits-tested c (digit_lt c d)) d

  pub value-bits : c % 16 + 9 * (c / 64) ≡ value_of c
  unfolding rules
  value-bits = eqb-true _ _ ((and-eq-true_iff (eqb (c % 16 + 9 * (c / 64)) (value_of c)) _).0 ruled).0

  small-and-back : (ltb (value_of c) 16 && eqb (digit_of (value_of c)) c) ≡ true
  unfolding rules
  small-and-back = ((and-eq-true_iff (eqb (c % 16 + 9 * (c / 64)) (value_of c)) _).0 ruled).1

  pub value-lt : value_of c < 16
  value-lt = ltb-true _ _ ((and-eq-true_iff (ltb (value_of c) 16) _).0 small-and-back).0

  pub digit_value : digit_of (value_of c) ≡ c
  digit_value = eqb-true _ _ ((and-eq-true_iff (ltb (value_of c) 16) _).0 small-and-back).1

-- what holds of a value below 16, and is computed at each: it has a digit, of that value
value_test : ℕ → Bool
value_test n = is_digit (digit_of n) && eqb (value_of (digit_of n)) n

values-tested : every value_test 16 ≡ true
unfolding value_test is_digit value_of digit_of
values-tested = refl

module _ (n : ℕ) (h : n < 16) where
  valued : (is_digit (digit_of n) && eqb (value_of (digit_of n)) n) ≡ true
  unfolding value_test
  valued = below value_test 16 values-tested n h

  pub digit-is : is_digit (digit_of n) ≡ true
  digit-is = ((and-eq-true_iff (is_digit (digit_of n)) _).0 valued).0

  pub value-digit : value_of (digit_of n) ≡ n
  value-digit = eqb-true _ _ ((and-eq-true_iff (is_digit (digit_of n)) _).0 valued).1

-- ---- a line
-- one digit more, and none
pub digits-next : (s : List ℕ) (i : ℕ) → i < length s → all_digits (drop i s) ≡ (is_digit (get_or s i 0) && all_digits (drop (i + 1) s))
unfolding all_digits
digits-next s i h = rw (add-one, drop-cons s i 0 h) refl

pub digits-end : (s : List ℕ) (i : ℕ) → length s ≤ i → all_digits (drop i s) ≡ true
unfolding all_digits
digits-end s i h = rw (drop_of_length-le s h) refl

-- where all are digits, each is
digit-of : (s : List ℕ) (i : ℕ) → all_digits s ≡ true → i < length s → is_digit (get_or s i 0) ≡ true
unfolding all_digits
digit-of [] i e h = absurd (omega (arith, h))
digit-of (c ∷ s) zero e h = ((and-eq-true_iff (is_digit c) (all_digits s)).0 e).0
digit-of (c ∷ s) (suc i) e h = digit-of s i ((and-eq-true_iff (is_digit c) (all_digits s)).0 e).1 (omega (arith, h))

module _ (s : List ℕ) where
  -- the tests of a line, in their order
  pub line-long : 40000 < length s → is_line s ≡ false
  unfolding is_line
  line-long h = simp (lt-leb (length s) 40000 h)

  pub line-odd : length s ≤ 40000 → (length s % 2 ≡ 0 → ⊥) → is_line s ≡ false
  unfolding is_line
  line-odd short h = simp (le-leb (length s) 40000 short, ne_eqb (length s % 2) 0 h)

  pub line-even : length s ≤ 40000 → length s % 2 ≡ 0 → is_line s ≡ all_digits s
  unfolding is_line
  line-even short h = simp (le-leb (length s) 40000 short, eq-eqb (length s % 2) 0 h)

  -- where so many characters were looked at: whether those were digits, and what is left to be told
  pub record Seen (i others : ℕ) : Type 0 where
    pub digits : Bool
    pub told : others ≡ cond digits 0 1
    pub rest : is_line s ≡ (digits && all_digits (drop i s))

  pub seen_none : is_line s ≡ all_digits s → Seen 0 0
  seen_none e = record { digits = true; told = refl; rest = e }

  pub seen_next : (i others : ℕ) → i < length s → Seen i others → (other : ℕ) → other ≡ cond (is_digit (get_or s i 0)) 0 1 → Seen (i + 1) (bit_or others other)
  seen_next i others h w other e = record {
    digits = w.digits && is_digit (get_or s i 0);
    told = ap₂ bit_or w.told e ∙ or-none w.digits (is_digit (get_or s i 0));
    rest = w.rest ∙ ap (λ (b : Bool). w.digits && b) (digits-next s i h) ∙ sym (and_assoc w.digits (is_digit (get_or s i 0)) (all_digits (drop (i + 1) s)));
  }
    where
      or-none : (a b : Bool) → bit_or (cond a 0 1) (cond b 0 1) ≡ cond (a && b) 0 1
      or-none true true = refl
      or-none true false = refl
      or-none false true = refl
      or-none false false = refl

  pub seen_all : (i others : ℕ) → length s ≤ i → Seen i others → eqb others 0 ≡ is_line s
  seen_all i others h w =
      ap (λ (n : ℕ). eqb n 0) w.told ∙ is_none w.digits
      ∙ sym (w.rest ∙ ap (λ (b : Bool). w.digits && b) (digits-end s i h) ∙ and-true w.digits)
    where
      is_none : (a : Bool) → eqb (cond a 0 1) 0 ≡ a
      is_none true = refl
      is_none false = refl

  module _ (l : is_line s ≡ true) where
    -- a line has pairs of digits
    pub line-pairs : (length s % 2 ≡ 0) × (all_digits s ≡ true)
    unfolding is_line
    line-pairs =
        let p = (and-eq-true_iff (eqb (length s % 2) 0) (all_digits s)).0 ((and-eq-true_iff (leb (length s) 40000) _).0 l).1 in
        (eqb-true _ _ p.0, p.1)

    -- each of its characters is a digit
    pub line-digit : (i : ℕ) → i < length s → is_digit (get_or s i 0) ≡ true
    line-digit i h = digit-of s i line-pairs.1 h

-- ---- one pair of digits more
-- half as many bytes as digits, and twice as many digits as bytes
pub length_bytes : (s : List ℕ) → length (to_bytes s) ≡ length s / 2
unfolding to_bytes
length_bytes [] = refl
length_bytes (c ∷ []) = refl
length_bytes (high ∷ low ∷ s) = ap suc (length_bytes s) ∙ omega arith

pub length_digits : (v : List ℕ) → length (to_digits v) ≡ 2 * length v
unfolding to_digits
length_digits [] = refl
length_digits (b ∷ v) = ap (λ (n : ℕ). suc (suc n)) (length_digits v) ∙ omega arith

-- the next byte, and none
bytes_next : (s : List ℕ) (i : ℕ) → i < length s / 2
    → to_bytes (drop (2 * i) s) ≡ (16 * value_of (get_or s (2 * i) 0) + value_of (get_or s (2 * i + 1) 0)) ∷ to_bytes (drop (2 * (i + 1)) s)
unfolding to_bytes
bytes_next s i h =
    let e : 2 * (i + 1) ≡ suc (suc (2 * i)) = omega arith in
    rw (e, add-one (2 * i), drop-cons s (2 * i) 0 (omega arith), drop-cons s (suc (2 * i)) 0 (omega arith)) refl

bytes-end : (s : List ℕ) → length s < 2 → to_bytes s ≡ []
unfolding to_bytes
bytes-end [] h = refl
bytes-end (c ∷ []) h = refl
bytes-end (high ∷ low ∷ s) h = absurd (omega (arith, h))

-- the digits of the next byte, and none
digits-pair : (v : List ℕ) (i : ℕ) → i < length v
    → to_digits (drop i v) ≡ digit_of (get_or v i 0 / 16) ∷ digit_of (get_or v i 0 % 16) ∷ to_digits (drop (i + 1) v)
unfolding to_digits
digits-pair v i h = rw (add-one, drop-cons v i 0 h) refl

digits-none : (v : List ℕ) (i : ℕ) → length v ≤ i → to_digits (drop i v) ≡ []
unfolding to_digits
digits-none v i h = rw (drop_of_length-le v h) refl

-- the bytes of the pairs passed stand in front of the buffer
abbrev pub Bytes-put : List ℕ → List ℕ → List ℕ → ℕ → Type 0
Bytes-put s d₀ d i = Put (to_bytes s) d₀ d i (to_bytes (drop (2 * i) s))

module _ (s d₀ d : List ℕ) (i : ℕ) (w : Bytes-put s d₀ d i) where
  pub bytes-put-next : (x : ℕ) → i < length s / 2 → length s / 2 ≤ length d₀
      → x ≡ 16 * value_of (get_or s (2 * i) 0) + value_of (get_or s (2 * i + 1) 0) → Bytes-put s d₀ (set d i x) (i + 1)
  bytes-put-next x h room e =
      put_next (x ∷ []) (to_bytes (drop (2 * (i + 1)) s)) (rw (bytes_next s i h, ← e) at w) (rw (length_bytes s) room)

  pub bytes-put-done : length s / 2 ≤ i → d ≡ front (to_bytes s) d₀
  bytes-put-done h = put-done (rw (bytes-end (drop (2 * i) s) (simp length-drop (omega arith))) at w)

-- the digits of the bytes passed stand in front of the buffer
abbrev pub Digits-put : List ℕ → List ℕ → List ℕ → ℕ → Type 0
Digits-put v d₀ d i = Put (to_digits v) d₀ d (2 * i) (to_digits (drop i v))

module _ (v d₀ d : List ℕ) (i : ℕ) (w : Digits-put v d₀ d i) where
  pub digits-put-next : (x y : ℕ) → i < length v → 2 * length v ≤ length d₀
      → x ≡ digit_of (get_or v i 0 / 16) → y ≡ digit_of (get_or v i 0 % 16) → Digits-put v d₀ (set (set d (2 * i) x) (2 * i + 1) y) (i + 1)
  digits-put-next x y h room ex ey =
      let t : 2 * (i + 1) ≡ 2 * i + 2 = omega arith in
      rw (t, add-one (2 * i))
      (put_next (x ∷ y ∷ []) (to_digits (drop (i + 1) v)) (rw (digits-pair v i h, ← ex, ← ey) at w) (rw (length_digits v) room))

  pub digits-put-done : length v ≤ i → d ≡ front (to_digits v) d₀
  digits-put-done h = put-done (rw (digits-none v i h) at w)

-- ---- which answer is given
module _ (room : ℕ) (s : List ℕ) where
  pub no_line : is_line s ≡ false → decoding room s ≡ refused 23 0
  unfolding decoding
  no_line e = simp e

  pub read : is_line s ≡ true → length s / 2 ≤ room → decoding room s ≡ returned (to_bytes s)
  unfolding decoding
  read line h = simp (line, length_bytes s, le-ltb room (length s / 2) h)

pub written : (room : ℕ) (v : List ℕ) → length v ≤ room / 2 → encoding room v ≡ returned (to_digits v)
unfolding encoding
written room v h = simp (length_digits v, le-ltb room (2 * length v) (omega arith))

-- ---- what was written lies inside the buffer
pub clash : ◌≡◌ {A = ℕ} 0 1 → ⊥
clash z = omega arith

into-fits : (room : ℕ) (v : List ℕ) {n : ℕ} → returned n ≡ counted (into room v) → n ≤ room
into-fits room v {n} e = by (ltb room (length v)) refl e
  where
    by : (t : Bool) → ltb room (length v) ≡ t → returned n ≡ counted (cond t (refused 21 0) (returned v)) → n ≤ room
    by true k e = absurd (clash (cc))
    by false k e = let l : n ≡ length v = cc in omega (arith, ltb-false room (length v) k)

pub decoded-fits : (room : ℕ) (s : List ℕ) {n : ℕ} → returned n ≡ counted (decoding room s) → n ≤ room
unfolding decoding
decoded-fits room s {n} e = by (is_line s) e
  where
    by : (t : Bool) → returned n ≡ counted (cond t (into room (to_bytes s)) (refused 23 0)) → n ≤ room
    by true e = into-fits room (to_bytes s) e
    by false e = absurd (clash (cc))
