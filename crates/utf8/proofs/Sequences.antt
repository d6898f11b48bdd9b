-- Laws of one sequence: its bits, the loop over its continuation bytes, the row of its lead byte. Assumes nothing.
use mathlib.Core.Path.{◌≡◌, refl, sym, ap, ◌∙◌}
use mathlib.Core.Bool.{Bool, true, false, false≢true, not, cond, ◌&&◌, and-eq-true_iff}
use mathlib.Core.List.{List, [], ◌∷◌, ◌++◌}
use Prim.Native.Nat.{ℕ, zero, suc, ◌+◌, ◌*◌, ◌-◌, ◌%◌, ◌^◌, ◌≤◌, ◌<◌}
use native.Mathlib.Nat.{mod-lt, pow-suc, pow-le-pow_right}
use native.Mathlib.Numerals.{add-one}
use native.Mathlib.Omega.{arith}
use borrow.Author.Tests.{eqb-true, eq-eqb, ne_eqb, le-leb, lt-leb}
use lib.Bits.{bit_and, bit_or, and_mask, or_shifted}
use lib.Count.{count_leading_zeros}
use lib.Dec.{eqb, leb, lit<}
use lib.Pow.{shl_exact}
use lib.ListN.{length, get_or, drop, length-drop}
use lib.Seq.{drop-cons}
use Rattle.std.specs.Prelude.{Option, Some, None, unwrap_or}
use Rattle.slices.proofs.Below.{below}
use Rattle.utf8.specs.Utf8.{leading_ones, is_continuation, is_scalar, completes, sized, rows, sequence}

-- ---- the bits

-- a shift, a mask and an or put six bits below the others
pub shifted_in : (v b : ℕ) → v < 2 ^ 18 → bit_or ((v * 2 ^ 6) % 2 ^ 32) (bit_and b 0x3F) ≡ v * 0x40 + b % 0x40
shifted_in v b h =
    rw (shl_exact {a = v} 18 6 32 h (omega arith), and_mask b 6) (or_shifted v 6 (b % 0x40) (mod-lt b (lit< tt)))

-- ---- the continuation bytes

-- all of them are there
completes-fits : (count least v : ℕ) (s : List ℕ) → completes count least v s ≡ true → count ≤ length s
unfolding completes
completes-fits zero least v s e = omega arith
completes-fits (suc count) least v [] e = absurd (false≢true e)
completes-fits (suc count) least v (b ∷ s) e =
    let both = (and-eq-true_iff (is_continuation b) (completes count least (v * 0x40 + b % 0x40) s)).0 e in
    omega (arith, completes-fits count least (v * 0x40 + b % 0x40) s both.1)

-- so a sequence that is cut off is a fault
completes-short : (count least v : ℕ) (s : List ℕ) → length s < count → completes count least v s ≡ false
completes-short count least v s h = go (completes count least v s) refl
  where
    go : (t : Bool) → completes count least v s ≡ t → t ≡ false
    go true e = absurd (omega (arith, completes-fits count least v s e))
    go false e = refl

-- what follows a sequence does not touch it
completes-append : (count least v : ℕ) (s t : List ℕ) → completes count least v s ≡ true → completes count least v (s ++ t) ≡ true
unfolding completes
completes-append zero least v s t e = e
completes-append (suc count) least v [] t e = absurd (false≢true e)
completes-append (suc count) least v (b ∷ s) t e =
    let both = (and-eq-true_iff (is_continuation b) (completes count least (v * 0x40 + b % 0x40) s)).0 e in
    rw both.0 (completes-append count least (v * 0x40 + b % 0x40) s t both.1)

-- a list from a place on: what stands there, and the rest
pub at_place : (s : List ℕ) (at : ℕ) → at < length s → drop at s ≡ get_or s at 0 ∷ drop (at + 1) s
at_place s at h = rw (add-one at) (drop-cons s at 0 h)

-- the list ends inside the sequence
pub cut_off : (s : List ℕ) (at size least bits : ℕ) → at < length s → 1 ≤ size → length s - at < size
    → None ≡ sized size least bits (drop (at + 1) s)
cut_off s at size least bits h p l =
    rw (completes-short (size - 1) least bits (drop (at + 1) s) (omega (arith, length-drop (at + 1) s)))

-- of the sequence of `size` bytes at a place, whose lead byte gave `bits`, i bytes are read and gave v
pub record Reading (s : List ℕ) (at size least bits v i : ℕ) : Type 0 where
  pub begun : 1 ≤ i
  pub within : i ≤ size
  pub fits : at + size ≤ length s
  pub small : v < 0x40 ^ i
  -- what is left decides as the whole does
  pub decides : completes (size - i) least v (drop (at + i) s) ≡ completes (size - 1) least bits (drop (at + 1) s)

-- the lead byte is read
pub reading : (s : List ℕ) (at size least bits : ℕ) → 1 ≤ size → at + size ≤ length s → bits < 0x40 → Reading s at size least bits bits 1
reading s at size least bits p h l = record { begun = omega arith; within = p; fits = h; small = omega arith; decides = refl }

module _ {s : List ℕ} {at size least bits v i : ℕ} (r : Reading s at size least bits v i) where
  module _ (l : i < size) where
    -- up to the fourth byte there is room for six bits more
    pub room : size ≤ 4 → v < 2 ^ 18
    room h = omega (arith, pow-le-pow_right {n = 0x40} (lit< tt) {i = i} {j = 3} (omega arith))

    next : completes (size - 1) least bits (drop (at + 1) s)
        ≡ (is_continuation (get_or s (at + i) 0) && completes (size - (i + 1)) least (v * 0x40 + get_or s (at + i) 0 % 0x40) (drop (at + (i + 1)) s))
    unfolding completes
    next =
        let e : size - i ≡ suc (size - (i + 1)) = omega arith in
        let f : at + i + 1 ≡ at + (i + 1) = omega arith in
        sym r.decides ∙ rw (e, at_place s (at + i) (omega arith), f) refl

    -- the next byte is no continuation byte
    pub no-continuation : is_continuation (get_or s (at + i) 0) ≡ false → None ≡ sized size least bits (drop (at + 1) s)
    no-continuation e = rw (next, e)

    -- it is one
    pub continued : is_continuation (get_or s (at + i) 0) ≡ true → (w : ℕ) → w ≡ v * 0x40 + get_or s (at + i) 0 % 0x40
        → Reading s at size least bits w (i + 1)
    continued e w f = record {
      begun = omega arith;
      within = omega arith;
      fits = omega arith;
      small = rw (add-one i) (omega (arith, f, pow-suc 0x40 i));
      decides = rw f (sym (rw e at next));
    }

  module _ (l : size ≤ i) where
    -- all bytes are read: the scalar value decides
    last : completes (size - 1) least bits (drop (at + 1) s) ≡ (leb least v && is_scalar v)
    unfolding completes
    last = let z : size - i ≡ 0 = omega arith in sym (rw z at r.decides)

    pub overlong : v < least → None ≡ sized size least bits (drop (at + 1) s)
    overlong h = rw (last, lt-leb least v h)

    pub no-scalar : least ≤ v → is_scalar v ≡ false → None ≡ sized size least bits (drop (at + 1) s)
    no-scalar h e = rw (last, le-leb least v h, e)

    pub well-formed : least ≤ v → is_scalar v ≡ true → Some size ≡ sized size least bits (drop (at + 1) s)
    well-formed h e = rw (last, le-leb least v h, e)

-- ---- the lead byte
module _ (lead : ℕ) (s : List ℕ) where
  -- the count of its leading ones picks the row
  pub by_ones : (ones : ℕ) → leading_ones lead ≡ ones → rows ones lead s ≡ sequence lead s
  unfolding sequence
  by_ones ones e = rw e

  -- a mask takes its bits
  pub by_mask : (ones bits least : ℕ) (r : Option ℕ) → leading_ones lead ≡ ones → r ≡ sized ones least (bit_and lead (2 ^ bits - 1)) s
      → sized ones least (lead % 2 ^ bits) s ≡ rows ones lead s → r ≡ sequence lead s
  by_mask ones bits least r e f g = f ∙ ap (λ (v : ℕ). sized ones least v s) (and_mask lead bits) ∙ g ∙ by_ones ones e

  -- 1 leading one, and above 4, are faults
  pub no_lead : (leading_ones lead ≡ 0 → ⊥) → (leading_ones lead ≡ 2 → ⊥) → (leading_ones lead ≡ 3 → ⊥) → (leading_ones lead ≡ 4 → ⊥)
      → None ≡ sequence lead s
  unfolding sequence
  no_lead a b c d =
      rw (ne_eqb (leading_ones lead) 0 a, ne_eqb (leading_ones lead) 2 b, ne_eqb (leading_ones lead) 3 c, ne_eqb (leading_ones lead) 4 d)

  -- a byte that is not ASCII has leading ones
  pub some-ones : lead < 0x100 → 0x80 ≤ lead → leading_ones lead ≡ 0 → ⊥
  unfolding count_leading_zeros
  some-ones h l e =
      let k : ℕ = lead - 0x80 in
      let x : 0x80 + k ≡ lead = omega arith in
      let f : not (eqb (leading_ones (0x80 + k)) 0) ≡ true = below (λ b. not (eqb (leading_ones (0x80 + b)) 0)) 0x80 refl k (omega arith) in
      false≢true (rw (x, eq-eqb (leading_ones lead) 0 e) at f)

  -- an ASCII byte is a sequence
  pub sequence-ascii : lead < 0x80 → sequence lead s ≡ Some 1
  unfolding count_leading_zeros
  sequence-ascii h = sym (by_ones 0 (eqb-true (leading_ones lead) 0 (below (λ b. eqb (leading_ones b) 0) 0x80 refl lead h)))

-- ---- every row

-- what holds of 1, of none and of every sequence of continuation bytes holds of every row
by_row : (P : Option ℕ → Type 0) (s : List ℕ) → P (Some 1) → P None → ((k least v : ℕ) → P (sized (suc k) least v s))
    → (lead : ℕ) → P (sequence lead s)
unfolding sequence
by_row P s one none more lead =
    by-test (eqb (leading_ones lead) 0) one
    (by-test (eqb (leading_ones lead) 2) (more 1 0x80 (lead % 0x20))
    (by-test (eqb (leading_ones lead) 3) (more 2 0x800 (lead % 0x10))
    (by-test (eqb (leading_ones lead) 4) (more 3 0x10000 (lead % 0x08)) none)))
  where
    by-test : (t : Bool) {a b : Option ℕ} → P a → P b → P (cond t a b)
    by-test true p q = p
    by-test false p q = q

-- a sequence has bytes, and lies inside the list
pub sequence-size : (lead : ℕ) (s : List ℕ) (n : ℕ) → sequence lead s ≡ Some n → (1 ≤ n) × (n ≤ suc (length s))
sequence-size lead s n e =
    let P : Option ℕ → Type 0 = λ o. (m : ℕ) → o ≡ Some m → (1 ≤ m) × (m ≤ suc (length s)) in
    by_row P s (λ m f. let g : 1 ≡ m = some-is f in (omega (arith, g), omega (arith, g))) (λ m f. absurd (none-is f)) sized-le lead n e
  where
    some-is : {a b : ℕ} → Some a ≡ Some b → a ≡ b
    some-is {a} {b} f = ap (λ (o : Option ℕ). unwrap_or o 0) f

    none-is : {b : ℕ} → None ≡ Some b → ⊥
    none-is {b} f = cc

    sized-le : (k least v m : ℕ) → sized (suc k) least v s ≡ Some m → (1 ≤ m) × (m ≤ suc (length s))
    sized-le k least v m = go (completes (suc k - 1) least v s) refl
      where
        go : (t : Bool) → completes (suc k - 1) least v s ≡ t → cond t (Some (suc k)) None ≡ Some m → (1 ≤ m) × (m ≤ suc (length s))
        go true e f = let g : suc k ≡ m = some-is f in (omega (arith, g), omega (arith, g, completes-fits (suc k - 1) least v s e))
        go false e f = absurd (none-is f)
