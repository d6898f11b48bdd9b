-- Widths, and what the answers of reads and writes tell. Assumes nothing.
use mathlib.Core.Path.{◌≡◌, refl, sym, ap, ◌∙◌, subst}
use mathlib.Core.Bool.{Bool, true, false, not, cond}
use mathlib.Core.List.{List}
use Prim.Native.Nat.{ℕ, ◌+◌, ◌-◌, ◌^◌, ◌≤◌, ◌<◌}
use native.Mathlib.Omega.{arith}
use lib.Dec.{eqb, leb, lit≤}
use lib.IntN.{ℤ}
use Rattle.std.specs.Prelude.{Result, Ok, Err}
use lib.ListN.{length}
use borrow.Author.Tests.{not-true, not-false, eqb-true, ltb-true, le-leb, lt-leb, leb-true, leb-false}
use Rattle.slices.specs.Parts.{part, reaches}
use Rattle.slices.proofs.Parts.{bytes-part, reaches-yes, reaches-no, reaches-le, reaches-lt, length_part}
use Rattle.numbers.specs.BigEndian.{big_endian, Bytes, holds}
use Rattle.numbers.specs.TwosComplement.{twos}
use Rattle.numbers.specs.Access.{is_width, unsigned_at, signed_at, signed_of, storing}
use Rattle.numbers.specs.declared.ReadError.{ReadError}
use Rattle.numbers.specs.declared.ReadError.TheVariants as R
use Rattle.numbers.specs.declared.WriteError.{WriteError}
use Rattle.numbers.specs.declared.WriteError.TheVariants.{OutOfRange, OutOfBounds, InvalidWidth}
use Rattle.numbers.proofs.BigEndian.{big_lt}

-- ---- the tests of the code
-- a test made by `!` that is taken, and one that is not
pub failed : {t b : Bool} → t ≡ b → not t ≡ true → b ≡ false
failed e n = sym e ∙ not-true _ n

pub passed : {t b : Bool} → t ≡ b → not t ≡ false → b ≡ true
passed e n = sym e ∙ not-false _ n

-- a difference compared, where a sum could wrap
pub room : (n at k : ℕ) → at ≤ n → leb k (n - at) ≡ leb (at + k) n
room n at k h = by (leb k (n - at)) refl
  where
    by : (b : Bool) → leb k (n - at) ≡ b → b ≡ leb (at + k) n
    by true e = sym (le-leb (at + k) n (omega (arith, leb-true k (n - at) e)))
    by false e = sym (lt-leb (at + k) n (omega (arith, leb-false k (n - at) e)))

-- ---- widths
-- what holds at 1, 2, 4 and 8 holds at every width
pub every-width : (P : ℕ → Type 0) → P 1 → P 2 → P 4 → P 8 → (k : ℕ) → is_width k ≡ true → P k
every-width P p1 p2 p4 p8 k e = by-1 (eqb k 1) refl
  where
    at : (n : ℕ) → P n → eqb k n ≡ true → P k
    at n p f = subst P (sym (eqb-true k n f)) p

    by_4 : (b : Bool) → eqb k 4 ≡ b → eqb k 1 ≡ false → eqb k 2 ≡ false → P k
    by_4 true f g h = at 4 p4 f
    by_4 false f g h = at 8 p8 (rw (g, h, f) at e)

    by_2 : (b : Bool) → eqb k 2 ≡ b → eqb k 1 ≡ false → P k
    by_2 true f g = at 2 p2 f
    by_2 false f g = by_4 (eqb k 4) refl g f

    by-1 : (b : Bool) → eqb k 1 ≡ b → P k
    by-1 true f = at 1 p1 f
    by-1 false f = by_2 (eqb k 2) refl f

pub width-least : (k : ℕ) → is_width k ≡ true → 1 ≤ k
width-least k e = every-width (λ (k : ℕ). 1 ≤ k) (lit≤ tt) (lit≤ tt) (lit≤ tt) (lit≤ tt) k e

pub width-most : (k : ℕ) → is_width k ≡ true → k ≤ 8
width-most k e = every-width (λ (k : ℕ). k ≤ 8) (lit≤ tt) (lit≤ tt) (lit≤ tt) (lit≤ tt) k e

-- a number of k bytes lies in the list from `at` on
pub record Lies (s : List ℕ) (at k : ℕ) : Type 0 where
  pub width : is_width k ≡ true
  pub inside : at + k ≤ length s

-- ---- the answers of an unsigned read
module _ (s : List ℕ) (at k : ℕ) where
  -- what leads to each
  pub unsigned-number : Lies s at k → Ok (big_endian (part s at k)) ≡ unsigned_at s at k
  unfolding unsigned_at
  unsigned-number l = rw (l.width, reaches-yes s at k l.inside)

  pub unsigned-beyond : is_width k ≡ true → length s < at + k → Err R.OutOfBounds ≡ unsigned_at s at k
  unfolding unsigned_at
  unsigned-beyond w h = rw (w, reaches-no s at k h)

  pub unsigned-invalid : is_width k ≡ false → Err R.InvalidWidth ≡ unsigned_at s at k
  unfolding unsigned_at
  unsigned-invalid w = rw w

  -- what each tells
  pub data UnsignedTells : Result ℕ ReadError → Type 0 where
    number : {n : ℕ} → n ≡ big_endian (part s at k) → Lies s at k → UnsignedTells (Ok n)
    beyond : is_width k ≡ true → length s < at + k → UnsignedTells (Err R.OutOfBounds)
    invalid : is_width k ≡ false → UnsignedTells (Err R.InvalidWidth)

  pub unsigned-tells : UnsignedTells (unsigned_at s at k)
  unsigned-tells = by_width (is_width k) refl
    where
      by-reach : (b : Bool) → reaches s at k ≡ b → is_width k ≡ true → UnsignedTells (unsigned_at s at k)
      by-reach true r w =
          let l : Lies s at k = record { width = w; inside = reaches-le s at k r } in
          subst UnsignedTells (unsigned-number l) (number refl l)
      by-reach false r w = subst UnsignedTells (unsigned-beyond w (reaches-lt s at k r)) (beyond w (reaches-lt s at k r))

      by_width : (b : Bool) → is_width k ≡ b → UnsignedTells (unsigned_at s at k)
      by_width true w = by-reach (reaches s at k) refl w
      by_width false w = subst UnsignedTells (unsigned-invalid w) (invalid w)

  pub unsigned-found : (n : ℕ) → Ok n ≡ unsigned_at s at k → (n ≡ big_endian (part s at k)) × Lies s at k
  unsigned-found n e = told (subst UnsignedTells (sym e) unsigned-tells)
    where
      told : UnsignedTells (Ok n) → (n ≡ big_endian (part s at k)) × Lies s at k
      told (number e l) = (e, l)

  pub unsigned-short : Err R.OutOfBounds ≡ unsigned_at s at k → length s < at + k
  unsigned-short e = told (subst UnsignedTells (sym e) unsigned-tells)
    where
      told : UnsignedTells (Err R.OutOfBounds) → length s < at + k
      told (beyond w h) = h

  -- a number that lies in bytes is below 256 to its width
  pub lies-lt : Bytes s → Lies s at k → big_endian (part s at k) < 256 ^ k
  lies-lt b l =
      subst (λ (j : ℕ). big_endian (part s at k) < 256 ^ j) (length_part s at k l.inside) (big_lt (part s at k) (bytes-part s at k b))

-- ---- the answers of a signed read
clash : ◌≡◌ {A = ℕ} 0 1 → ⊥
clash e = omega arith

module _ (s : List ℕ) (at k : ℕ) where
  -- what leads to each
  pub signed-number : Lies s at k → Ok (twos k (big_endian (part s at k))) ≡ signed_at s at k
  signed-number l = ap (signed_of k) (unsigned-number s at k l)

  pub signed-beyond : is_width k ≡ true → length s < at + k → Err R.OutOfBounds ≡ signed_at s at k
  signed-beyond w h = ap (signed_of k) (unsigned-beyond s at k w h)

  pub signed-invalid : is_width k ≡ false → Err R.InvalidWidth ≡ signed_at s at k
  signed-invalid w = ap (signed_of k) (unsigned-invalid s at k w)

  -- what each tells
  pub signed-found : (z : ℤ) → Ok z ≡ signed_at s at k → (z ≡ twos k (big_endian (part s at k))) × Lies s at k
  signed-found z e = told (unsigned-tells s at k) e
    where
      told : {u : Result ℕ ReadError} → UnsignedTells s at k u → Ok z ≡ signed_of k u → (z ≡ twos k (big_endian (part s at k))) × Lies s at k
      told (number {n} f l) e = (let g : ◌≡◌ {A = Result ℤ ReadError} (Ok z) (Ok (twos k n)) = e in let h : z ≡ twos k n = cc in h ∙ ap (twos k) f, l)
      told (beyond w h) e = absurd (clash (cc))
      told (invalid w) e = absurd (clash (cc))

  pub signed-short : Err R.OutOfBounds ≡ signed_at s at k → length s < at + k
  signed-short e = told (unsigned-tells s at k) e
    where
      told : {u : Result ℕ ReadError} → UnsignedTells s at k u → Err R.OutOfBounds ≡ signed_of k u → length s < at + k
      told (number f l) e = absurd (clash (cc))
      told (beyond w h) e = h
      told (invalid w) e = absurd (clash (cc))

-- ---- the answers of a write
module _ (held : Bool) (d : List ℕ) (at k : ℕ) where
  -- what leads to each
  pub storing-invalid : is_width k ≡ false → Err InvalidWidth ≡ storing held d at k
  unfolding storing
  storing-invalid w = rw w

  pub storing-range : is_width k ≡ true → held ≡ false → Err OutOfRange ≡ storing held d at k
  unfolding storing
  storing-range w r = rw (w, r)

  pub storing-held : is_width k ≡ true → held ≡ true → cond (reaches d at k) (Ok tt) (Err OutOfBounds) ≡ storing held d at k
  unfolding storing
  storing-held w r = rw (w, r)

  pub storing-beyond : is_width k ≡ true → held ≡ true → length d < at + k → Err OutOfBounds ≡ storing held d at k
  unfolding storing
  storing-beyond w r h = rw (w, r, reaches-no d at k h)

  pub storing-written : held ≡ true → Lies d at k → Ok tt ≡ storing held d at k
  unfolding storing
  storing-written r l = rw (l.width, r, reaches-yes d at k l.inside)

  -- what each tells
  pub data StoringTells : Result Unit WriteError → Type 0 where
    written : held ≡ true → Lies d at k → StoringTells (Ok tt)
    range : is_width k ≡ true → held ≡ false → StoringTells (Err OutOfRange)
    beyond : is_width k ≡ true → held ≡ true → length d < at + k → StoringTells (Err OutOfBounds)
    invalid : is_width k ≡ false → StoringTells (Err InvalidWidth)

  pub storing-tells : StoringTells (storing held d at k)
  storing-tells = by_width (is_width k) refl
    where
      by-reach : (b : Bool) → reaches d at k ≡ b → is_width k ≡ true → held ≡ true → StoringTells (storing held d at k)
      by-reach true e w r =
          let l : Lies d at k = record { width = w; inside = reaches-le d at k e } in
          subst StoringTells (storing-written r l) (written r l)
      by-reach false e w r = subst StoringTells (storing-beyond w r (reaches-lt d at k e)) (beyond w r (reaches-lt d at k e))

      by-range : (b : Bool) → held ≡ b → is_width k ≡ true → StoringTells (storing held d at k)
      by-range true r w = by-reach (reaches d at k) refl w r
      by-range false r w = subst StoringTells (storing-range w r) (range w r)

      by_width : (b : Bool) → is_width k ≡ b → StoringTells (storing held d at k)
      by_width true w = by-range held refl w
      by_width false w = subst StoringTells (storing-invalid w) (invalid w)

  pub storing-done : Ok tt ≡ storing held d at k → (held ≡ true) × Lies d at k
  storing-done e = told (subst StoringTells (sym e) storing-tells)
    where
      told : StoringTells (Ok tt) → (held ≡ true) × Lies d at k
      told (written r l) = (r, l)

-- the width holds the number
pub holds-lt : (k n : ℕ) → holds k n ≡ true → n < 256 ^ k
holds-lt k n e = ltb-true n (256 ^ k) e
