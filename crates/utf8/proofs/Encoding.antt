-- The check accepts exactly the encodings of texts. Assumes nothing.
use mathlib.Core.Path.{◌≡◌, refl, sym, ap, ap₂, ◌∙◌}
use mathlib.Core.Bool.{Bool, true, false, false≢true, not, and-eq-true_iff}
use mathlib.Core.List.{List, [], ◌∷◌, ◌++◌}
use Prim.Native.Nat.{ℕ, zero, suc, ◌+◌, ◌*◌, ◌-◌, ◌/◌, ◌%◌, ◌^◌, ◌≤◌, ◌<◌}
use native.Mathlib.Nat.{pow-suc, div-one, div-div-eq-div-mul, mod-lt, not-suc-le-zero}
use native.Mathlib.Omega.{arith}
use borrow.Author.Tests.{eqb-true, eqb-false, eq-eqb, le-leb, lt-leb, leb-true, lt-ltb, le-ltb, ltb-true, ltb-false}
use lib.Count.{count_leading_zeros, leading_of_zero}
use lib.Dec.{eqb, leb, ltb}
use lib.Pow.{pow_pos}
use lib.ListN.{length, drop, length-append}
use Rattle.std.specs.Prelude.{Some, None}
use Rattle.slices.proofs.Below.{every, below}
use Rattle.utf8.specs.Utf8.{leading_ones, is_continuation, is_surrogate, is_scalar, completes, sized, rows, sequence, utf8}
use Rattle.utf8.specs.Encoding.{continuations, encode, encode_all, IsText, Encoded, AcceptsEncodings}
use Rattle.utf8.proofs.Sequences.{by_ones, no_lead}
use Rattle.utf8.proofs.Utf8.{utf8_nil, utf8-fault, utf8-cons, utf8-ascii-cons}

-- ---- lead bytes

-- n ones and a zero, with the bits x below them
abbrev lead_of : ℕ → ℕ → ℕ
lead_of n x = 0x100 - 2 ^ (8 - n) + x

-- a test of every lead byte
every-lead : (f : ℕ → ℕ → Bool) → every (λ n. every (f n) (2 ^ (7 - n))) 5 ≡ true → (n x : ℕ) → n < 5 → x < 2 ^ (7 - n) → f n x ≡ true
every-lead f e n x h l = below (f n) (2 ^ (7 - n)) (below (λ m. every (f m) (2 ^ (7 - m))) 5 e n h) x l

-- a lead byte has n leading ones
lead-ones : (n x : ℕ) → n < 5 → x < 2 ^ (7 - n) → leading_ones (lead_of n x) ≡ n
unfolding count_leading_zeros
lead-ones n x h l =
    eqb-true (leading_ones (lead_of n x)) n (every-lead (λ m y. eqb (leading_ones (lead_of m y)) m) refl n x h l)

-- its bits are x
lead_bits : (n x : ℕ) → n < 5 → x < 2 ^ (7 - n) → lead_of n x % 2 ^ (7 - n) ≡ x
lead_bits n x h l = eqb-true (lead_of n x % 2 ^ (7 - n)) x (every-lead (λ m y. eqb (lead_of m y % 2 ^ (7 - m)) y) refl n x h l)

-- every byte is a lead byte of its own count
byte-is : (b : ℕ) → b < 0x100 → b ≡ lead_of (leading_ones b) (b % 2 ^ (7 - leading_ones b))
unfolding count_leading_zeros
byte-is b h =
    eqb-true b (lead_of (leading_ones b) (b % 2 ^ (7 - leading_ones b)))
    (below (λ m. eqb m (lead_of (leading_ones m) (m % 2 ^ (7 - leading_ones m)))) 0x100 refl b h)

-- so is every number with so few leading ones: past the bytes there are 8
lead_is : (n lead : ℕ) → n < 5 → leading_ones lead ≡ n → lead ≡ lead_of n (lead % 2 ^ (7 - n))
lead_is n lead h e = go (ltb lead 0x100) refl
  where
    go : (t : Bool) → ltb lead 0x100 ≡ t → lead ≡ lead_of n (lead % 2 ^ (7 - n))
    go true l = rw e at (byte-is lead (ltb-true lead 0x100 l))
    go false l =
        let z : 0xFF - lead ≡ 0 = omega (arith, ltb-false lead 0x100 l) in
        absurd (omega (arith, sym e ∙ ap (count_leading_zeros 8) z ∙ leading_of_zero 8))

-- ---- continuation bytes

-- six bits less
shifted : (v k : ℕ) → v / 0x40 ^ suc k ≡ v / 0x40 ^ k / 0x40
shifted v k = ap (λ (m : ℕ). v / m) (pow-suc 0x40 k) ∙ sym (div-div-eq-div-mul v (0x40 ^ k) 0x40)

-- the continuation bytes of v give its bits back
completes-all : (k least v : ℕ) (t : List ℕ) → completes k least (v / 0x40 ^ k) (continuations k v ++ t) ≡ completes 0 least v t
unfolding completes continuations
completes-all zero least v t = rw (div-one v)
completes-all (suc k) least v t =
    let u : ℕ = v / 0x40 ^ k in
    let e : u / 0x40 * 0x40 + (0x80 + u % 0x40) % 0x40 ≡ u = omega arith in
    rw (shifted v k, eq-eqb ((0x80 + u % 0x40) / 0x40) 2 (omega arith), e) (completes-all k least v t)

-- what completes a sequence is the continuation bytes of a number
record Continues (k least u : ℕ) (s : List ℕ) : Type 0 where
  number : ℕ
  rest : List ℕ
  bits : number / 0x40 ^ k ≡ u
  splits : s ≡ continuations k number ++ rest
  passes : completes 0 least number rest ≡ true

continues : (k least u : ℕ) (s : List ℕ) → completes k least u s ≡ true → Continues k least u s
unfolding completes continuations
continues zero least u s e = record { number = u; rest = s; bits = div-one u; splits = refl; passes = e }
continues (suc k) least u [] e = absurd (false≢true e)
continues (suc k) least u (b ∷ s) e =
    let both = (and-eq-true_iff (is_continuation b) (completes k least (u * 0x40 + b % 0x40) s)).0 e in
    let c = continues k least (u * 0x40 + b % 0x40) s both.1 in
    let top : b / 0x40 ≡ 2 = eqb-true (b / 0x40) 2 both.0 in
    let w : ℕ = c.number / 0x40 ^ k in
    let octet : b ≡ 0x80 + w % 0x40 = omega (arith, c.bits) in
    record {
      number = c.number;
      rest = c.rest;
      bits = shifted c.number k ∙ omega (arith, c.bits);
      splits = ap₂ (λ (x : ℕ) (l : List ℕ). x ∷ l) octet c.splits;
      passes = c.passes;
    }

-- past the continuation bytes
drop_all : (k v : ℕ) (t : List ℕ) → drop k (continuations k v ++ t) ≡ t
unfolding continuations
drop_all zero v t = refl
drop_all (suc k) v t = drop_all k v t

-- ---- the rows

-- a row of the table with k continuation bytes, as the check reads it and as the RFC writes it
record Row (k least : ℕ) : Type 0 where
  small : suc k < 5
  read : (lead : ℕ) (s : List ℕ) → rows (suc k) lead s ≡ sized (suc k) least (lead % 2 ^ (7 - suc k)) s
  written : (v : ℕ) → least ≤ v → v / 0x40 ^ k < 2 ^ (7 - suc k) → encode v ≡ lead_of (suc k) (v / 0x40 ^ k) ∷ continuations k v

row-2 : Row 1 0x80
unfolding encode
row-2 = record {
  small = omega arith;
  read = λ lead s. refl;
  written = λ v h l. rw (le-ltb v 0x80 h, lt-ltb v 0x800 (omega arith));
}

row-3 : Row 2 0x800
unfolding encode
row-3 = record {
  small = omega arith;
  read = λ lead s. refl;
  written = λ v h l. rw (le-ltb v 0x80 (omega arith), le-ltb v 0x800 h, lt-ltb v 0x10000 (omega arith));
}

row-4 : Row 3 0x10000
unfolding encode
row-4 = record {
  small = omega arith;
  read = λ lead s. refl;
  written = λ v h l. rw (le-ltb v 0x80 (omega arith), le-ltb v 0x800 (omega arith), le-ltb v 0x10000 h);
}

-- a list that begins with the encoding of a scalar value
record Begins (s : List ℕ) : Type 0 where
  scalar : ℕ
  rest : List ℕ
  is-scalar : is_scalar scalar ≡ true
  splits : s ≡ encode scalar ++ rest
  shorter : length rest < length s

module _ (k least : ℕ) (row : Row k least) where
  pred-suc : suc k - 1 ≡ k
  pred-suc = omega arith

  -- what the row writes is read as one sequence
  accepted : (v : ℕ) (t : List ℕ) → is_scalar v ≡ true → least ≤ v → v / 0x40 ^ k < 2 ^ (7 - suc k) → utf8 (encode v ++ t) ≡ utf8 t
  unfolding completes
  accepted v t scalar h l =
      let x : ℕ = v / 0x40 ^ k in
      let lead : ℕ = lead_of (suc k) x in
      let s : List ℕ = continuations k v ++ t in
      let last : completes 0 least v t ≡ true = rw (le-leb least v h, scalar) in
      let bits : lead % 2 ^ (7 - suc k) ≡ x = lead_bits (suc k) x row.small l in
      let full : sized (suc k) least (lead % 2 ^ (7 - suc k)) s ≡ Some (suc k) = rw (bits, pred-suc, completes-all k least v t, last) in
      let ones : leading_ones lead ≡ suc k = lead-ones (suc k) x row.small l in
      let size : sequence lead s ≡ Some (suc k) = sym (by_ones lead s (suc k) ones) ∙ row.read lead s ∙ full in
      ap (λ (o : List ℕ). utf8 (o ++ t)) (row.written v h l) ∙ utf8-cons lead s (suc k) size
      ∙ ap (λ (n : ℕ). utf8 (drop n s)) pred-suc ∙ ap utf8 (drop_all k v t)

  -- what is read as a sequence of the row, the row has written
  begins : (lead : ℕ) (s : List ℕ) → leading_ones lead ≡ suc k → (sequence lead s ≡ None → ⊥) → Begins (lead ∷ s)
  unfolding completes
  begins lead s e good = go (completes k least (lead % 2 ^ (7 - suc k)) s) refl
    where
      go : (t : Bool) → completes k least (lead % 2 ^ (7 - suc k)) s ≡ t → Begins (lead ∷ s)
      go false f =
          let none : sized (suc k) least (lead % 2 ^ (7 - suc k)) s ≡ None = rw (pred-suc, f) in
          absurd (good (sym (by_ones lead s (suc k) e) ∙ row.read lead s ∙ none))
      go true f =
          let c = continues k least (lead % 2 ^ (7 - suc k)) s f in
          let v : ℕ = c.number in
          let both = (and-eq-true_iff (leb least v) (is_scalar v)).0 c.passes in
          let h : least ≤ v = leb-true least v both.0 in
          let l : v / 0x40 ^ k < 2 ^ (7 - suc k) = rw c.bits (mod-lt lead (pow_pos (7 - suc k))) in
          let first = lead_is (suc k) lead row.small e ∙ ap (lead_of (suc k)) (sym c.bits) in
          record {
            scalar = v;
            rest = c.rest;
            is-scalar = both.1;
            splits = ap₂ (λ (x : ℕ) (o : List ℕ). x ∷ o) first c.splits ∙ ap (λ (o : List ℕ). o ++ c.rest) (sym (row.written v h l));
            shorter = omega (arith, ap length c.splits, length-append (continuations k v) c.rest);
          }

-- ---- every encoding is accepted

-- past the encoding of a scalar value, what follows decides
pub encoded : (v : ℕ) (t : List ℕ) → is_scalar v ≡ true → utf8 (encode v ++ t) ≡ utf8 t
unfolding encode
encoded v t scalar = go (ltb v 0x80) (ltb v 0x800) (ltb v 0x10000) refl refl refl
  where
    go : (a b c : Bool) → ltb v 0x80 ≡ a → ltb v 0x800 ≡ b → ltb v 0x10000 ≡ c → utf8 (encode v ++ t) ≡ utf8 t
    go true b c e f g = rw e (utf8-ascii-cons v t (ltb-true v 0x80 e))
    go false true c e f g = accepted 1 0x80 row-2 v t scalar (ltb-false v 0x80 e) (omega (arith, ltb-true v 0x800 f))
    go false false true e f g = accepted 2 0x800 row-3 v t scalar (ltb-false v 0x800 f) (omega (arith, ltb-true v 0x10000 g))
    go false false false e f g =
        accepted 3 0x10000 row-4 v t scalar (ltb-false v 0x10000 g)
        (omega (arith, leb-true v 0x10FFFF ((and-eq-true_iff (not (is_surrogate v)) (leb v 0x10FFFF)).0 scalar).1))

-- one scalar value after another
complete : (text : List ℕ) → IsText text → utf8 (encode_all text) ≡ true
unfolding encode_all
complete [] h = utf8_nil
complete (v ∷ text) h = encoded v (encode_all text) h.0 ∙ complete text h.1

-- ---- nothing else is accepted

-- an ASCII byte is its own encoding
begins-ascii : (lead : ℕ) (s : List ℕ) → leading_ones lead ≡ 0 → Begins (lead ∷ s)
unfolding encode
begins-ascii lead s e =
    let h : lead < 0x80 = omega (arith, lead_is 0 lead (omega arith) e) in
    record {
      scalar = lead;
      rest = s;
      is-scalar = rw (lt-leb 0xD800 lead (omega arith), le-leb lead 0x10FFFF (omega arith));
      splits = rw (lt-ltb lead 0x80 h);
      shorter = omega arith;
    }

-- every sequence is the encoding of a scalar value
begins-any : (lead : ℕ) (s : List ℕ) → (sequence lead s ≡ None → ⊥) → Begins (lead ∷ s)
begins-any lead s good = go (eqb ones 0) (eqb ones 2) (eqb ones 3) (eqb ones 4) refl refl refl refl
  where
    ones : ℕ
    ones = leading_ones lead

    go : (a b c d : Bool) → eqb ones 0 ≡ a → eqb ones 2 ≡ b → eqb ones 3 ≡ c → eqb ones 4 ≡ d → Begins (lead ∷ s)
    go true b c d e f g h = begins-ascii lead s (eqb-true ones 0 e)
    go false true c d e f g h = begins 1 0x80 row-2 lead s (eqb-true ones 2 f) good
    go false false true d e f g h = begins 2 0x800 row-3 lead s (eqb-true ones 3 g) good
    go false false false true e f g h = begins 3 0x10000 row-4 lead s (eqb-true ones 4 h) good
    go false false false false e f g h =
        absurd (good (sym (no_lead lead s (eqb-false ones 0 e) (eqb-false ones 2 f) (eqb-false ones 3 g) (eqb-false ones 4 h))))

-- one sequence after another, by the length, which falls with each
sound : (most : ℕ) (s : List ℕ) → length s ≤ most → utf8 s ≡ true → Encoded s
unfolding encode_all
sound zero [] h e = record { text = []; is-text = tt; encodes = refl }
sound zero (lead ∷ s) h e = absurd (not-suc-le-zero h)
sound (suc most) [] h e = record { text = []; is-text = tt; encodes = refl }
sound (suc most) (lead ∷ s) h e =
    let b = begins-any lead s (λ z. false≢true (sym (utf8-fault lead s z) ∙ e)) in
    let f : utf8 b.rest ≡ true = sym (encoded b.scalar b.rest b.is-scalar) ∙ sym (ap utf8 b.splits) ∙ e in
    let r = sound most b.rest (omega (arith, b.shorter)) f in
    record {
      text = b.scalar ∷ r.text;
      is-text = (b.is-scalar, r.is-text);
      encodes = b.splits ∙ ap (λ (t : List ℕ). encode b.scalar ++ t) r.encodes;
    }

pub accepts-encodings : AcceptsEncodings
accepts-encodings = record { complete = complete; sound = λ s e. sound (length s) s (omega arith) e }
