-- Bytes survive their digits, and a line its bytes. Assumes nothing.
use mathlib.Core.Path.{◌≡◌, refl, ap, ◌∙◌}
use mathlib.Core.Bool.{Bool, true, false, cond, ◌&&◌, and-eq-true_iff}
use mathlib.Core.List.{List, [], ◌∷◌}
use Prim.Native.Nat.{ℕ, suc, ◌+◌, ◌*◌, ◌/◌, ◌%◌, ◌<◌}
use native.Mathlib.Omega.{arith}
use lib.Dec.{ltb}
use lib.ListN.{length}
use Rattle.numbers.specs.BigEndian.{Bytes}
use Rattle.refusal.specs.Answer.{returned, refused}
use Rattle.hex_lines.specs.Hex.{is_digit, value_of, digit_of, all_digits, is_line, to_bytes, to_digits, into, decoding, encoding}
use Rattle.hex_lines.specs.RoundTrip.{Claim}
use Rattle.hex_lines.proofs.Lines.{clash, value-lt, digit_value, digit-is, value-digit, line-even, line-pairs, length_bytes, length_digits, read, written}

-- a result is the whole output
into-result : (room : ℕ) (v : List ℕ) {w : List ℕ} → into room v ≡ returned w → v ≡ w
into-result room v {w} e = by (ltb room (length v)) e
  where
    by : (t : Bool) → cond t (refused 21 0) (returned v) ≡ returned w → v ≡ w
    by true e = absurd (clash (cc))
    by false e = cc

line_read : (room : ℕ) (s : List ℕ) {v : List ℕ} → decoding room s ≡ returned v → (is_line s ≡ true) × (to_bytes s ≡ v)
unfolding decoding
line_read room s {v} e = by (is_line s) refl e
  where
    by : (t : Bool) → is_line s ≡ t → cond t (into room (to_bytes s)) (refused 23 0) ≡ returned v → (is_line s ≡ true) × (to_bytes s ≡ v)
    by true l e = (l, into-result room (to_bytes s) e)
    by false l e = absurd (clash (cc))

-- a byte's two digits, and their byte
byte-back : (b : ℕ) → b < 256 → 16 * value_of (digit_of (b / 16)) + value_of (digit_of (b % 16)) ≡ b
byte-back b h = rw (value-digit (b / 16) (omega arith), value-digit (b % 16) (omega arith)) (omega arith)

bytes-of-digits : (v : List ℕ) → Bytes v → to_bytes (to_digits v) ≡ v
unfolding to_bytes to_digits
bytes-of-digits [] h = refl
bytes-of-digits (b ∷ v) h = rw (byte-back b (h 0), bytes-of-digits v (λ i. h (suc i))) refl

all_digits_lem : (v : List ℕ) → Bytes v → all_digits (to_digits v) ≡ true
unfolding all_digits to_digits
all_digits_lem [] h = refl
all_digits_lem (b ∷ v) h =
    let k : b < 256 = h 0 in
    rw (digit-is (b / 16) (omega arith), digit-is (b % 16) (omega arith)) (all_digits_lem v (λ i. h (suc i)))

digits-of-bytes : (s : List ℕ) → length s % 2 ≡ 0 → all_digits s ≡ true → to_digits (to_bytes s) ≡ s
unfolding all_digits to_bytes to_digits
digits-of-bytes [] e d = refl
digits-of-bytes (c ∷ []) e d = absurd (omega (arith, e))
digits-of-bytes (high ∷ low ∷ s) e d =
    let p = (and-eq-true_iff (is_digit high) (is_digit low && all_digits s)).0 d in
    let q = (and-eq-true_iff (is_digit low) (all_digits s)).0 p.1 in
    let h : value_of high < 16 = value-lt high p.0 in
    let l : value_of low < 16 = value-lt low q.0 in
    let a : (16 * value_of high + value_of low) / 16 ≡ value_of high = omega arith in
    let b : (16 * value_of high + value_of low) % 16 ≡ value_of low = omega arith in
    rw (a, b, digit_value high p.0, digit_value low q.0, digits-of-bytes s (omega (arith, e)) q.1) refl

pub round_trip : Claim
unfolding encoding
round_trip line bytes first second =
    record {
      bytes_back = λ b small e fits.
          let d : to_digits bytes ≡ line = into-result first (to_digits bytes) e in
          let n : length (to_digits bytes) ≡ 2 * length bytes = length_digits bytes in
          let l : is_line (to_digits bytes) ≡ true = line-even (to_digits bytes) (omega (arith, n, small)) (omega (arith, n)) ∙ all_digits_lem bytes b in
          rw (← d) (read second (to_digits bytes) l (omega (arith, n, fits)) ∙ ap returned (bytes-of-digits bytes b));
      line-back = λ e fits.
          let r = line_read first line e in
          let p = line-pairs line r.0 in
          let n : length (to_bytes line) ≡ length line / 2 = length_bytes line in
          rw (← r.1) (written second (to_bytes line) (omega (arith, n, fits)) ∙ ap returned (digits-of-bytes line p.0 p.1));
    }
