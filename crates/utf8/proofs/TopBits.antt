-- One law about a mask over any number of bytes: none has its top bit set exactly if all are ASCII. Assumes nothing.
use mathlib.Core.Path.{◌≡◌, refl, sym, ap, ap₂, ◌∙◌}
use mathlib.Core.Bool.{Bool, true, false, ◌&&◌}
use mathlib.Core.List.{List, [], ◌∷◌, ◌++◌}
use Prim.Native.Nat.{ℕ, zero, suc, ◌+◌, ◌*◌, ◌/◌, ◌%◌, ◌^◌, ◌≤◌, ◌<◌, min, max}
use native.Mathlib.Nat.{mod-lt, pow-suc}
use native.Mathlib.Omega.{arith}
use borrow.Author.Tests.{eqb-true, eqb-false, eq-eqb, ne_eqb}
use lib.Bits.{bit_and, bit_or, and_step, or_step, and_zero_r, or_add_and, and_le_l, and_le_r, and_block, and_high, and_shr, or_shr, and_mod, or_mod}
use lib.Dec.{eqb, ltb, lit<}
use lib.Pow.{pow-add}
use lib.ListN.{length, get_or, take, drop}
use lib.Seq.{take-add, drop-drop}
use Rattle.std.specs.Int.{byte_worth, sum_through}
use Rattle.slices.specs.Parts.{part}
use Rattle.slices.proofs.Parts.{length_part, bytes-part}
use Rattle.slices.proofs.Below.{every, below}
use Rattle.utf8.specs.Private.Ascii.{all_below, little_endian}
use Rattle.utf8.proofs.Runs.{ascii-or-not, all_append}

-- ---- the mask

-- eight bits more
eight-more : (n : ℕ) → 2 ^ (8 * suc n) ≡ 2 ^ (8 * n) * 0x100
eight-more n =
    let e : 8 * suc n ≡ 8 * n + 8 = omega arith in
    rw e (pow-add 2 (8 * n) 8)

-- the top bits of n bytes
unfoldable pub top_bits : ℕ → ℕ
top_bits zero = 0
top_bits (suc n) = top_bits n * 0x100 + 0x80

-- of one byte
top_bit : (b : ℕ) → b < 0x100 → eqb (bit_and b 0x80) 0 ≡ ltb b 0x80
top_bit b h = ascii-or-not (λ t. eqb (bit_and b 0x80) 0 ≡ t) b (λ l. eq-eqb (bit_and b 0x80) 0 (low l)) (λ l. ne_eqb (bit_and b 0x80) 0 (high l))
  where
    e : bit_and b 0x80 ≡ b / 0x80 % 2 * 0x80
    e = and_high b 1 7

    low : b < 0x80 → bit_and b 0x80 ≡ 0
    low l = let z : b / 0x80 ≡ 0 = omega arith in e ∙ ap (λ (q : ℕ). q % 2 * 0x80) z

    high : 0x80 ≤ b → bit_and b 0x80 ≡ 0 → ⊥
    high l z = let o : b / 0x80 ≡ 1 = omega arith in omega (arith, sym z ∙ e ∙ ap (λ (q : ℕ). q % 2 * 0x80) o)

-- a number is 0 exactly if two others are
both_zero : (n x y : ℕ) → (x ≡ 0 → y ≡ 0 → n ≡ 0) → (n ≡ 0 → (x ≡ 0) × (y ≡ 0)) → eqb n 0 ≡ (eqb x 0 && eqb y 0)
both_zero n x y join split = go (eqb x 0) (eqb y 0) refl refl
  where
    go : (p q : Bool) → eqb x 0 ≡ p → eqb y 0 ≡ q → eqb n 0 ≡ (p && q)
    go true true e f = eq-eqb n 0 (join (eqb-true x 0 e) (eqb-true y 0 f))
    go true false e f = ne_eqb n 0 (λ z. eqb-false y 0 f (split z).1)
    go false q e f = ne_eqb n 0 (λ z. eqb-false x 0 e (split z).0)

parts-zero : (x y : ℕ) → eqb (x * 0x100 + y) 0 ≡ (eqb y 0 && eqb x 0)
parts-zero x y = both_zero (x * 0x100 + y) y x (λ e f. omega arith) (λ z. (omega arith, omega arith))

-- of any number of bytes
masked : (s : List ℕ) → ((i : ℕ) → get_or s i 0 < 0x100) → eqb (bit_and (little_endian s) (top_bits (length s))) 0 ≡ all_below 0x80 s
unfolding little_endian top_bits all_below
masked [] h = refl
masked (b ∷ s) h =
    ap (λ (n : ℕ). eqb n 0) (and_block 8 (little_endian s) (top_bits (length s)) b 0x80 (h 0) (lit< tt))
    ∙ parts-zero (bit_and (little_endian s) (top_bits (length s))) (bit_and b 0x80)
    ∙ ap₂ (λ (p q : Bool). p && q) (top_bit b (h 0)) (masked s (λ i. h (suc i)))

-- so of a part
pub masked-part : (s : List ℕ) (at n : ℕ) → ((i : ℕ) → get_or s i 0 < 0x100) → at + n ≤ length s
    → eqb (bit_and (little_endian (part s at n)) (top_bits n)) 0 ≡ all_below 0x80 (part s at n)
masked-part s at n h l = rw (length_part s at n l) at (masked (part s at n) (bytes-part s at n h))

-- ---- several numbers under one mask

-- of one bit
bits : (p q r : ℕ) → p < 2 → q < 2 → r < 2 → min (bit_or p q) r ≡ max (bit_and p r) (bit_and q r)
bits p q r h k l =
    eqb-true (min (bit_or p q) r) (max (bit_and p r) (bit_and q r))
    (below (f p q) 2 (below (λ y. every (f p y) 2) 2 (below (λ x. every (λ y. every (f x y) 2) 2) 2 refl p h) q k) r l)
  where
    f : ℕ → ℕ → ℕ → Bool
    f x y z = eqb (min (bit_or x y) z) (max (bit_and x z) (bit_and y z))

-- a mask over an or is an or of what it leaves of both
and-or : (k a b m : ℕ) → m < 2 ^ k → bit_and (bit_or a b) m ≡ bit_or (bit_and a m) (bit_and b m)
and-or zero a b m h =
    let z : m ≡ 0 = omega arith in
    rw (z, and_zero_r (bit_or a b), and_zero_r a, and_zero_r b) refl
and-or (suc k) a b m h =
    and_step (bit_or a b) m
    ∙ ap₂ (λ (x y : ℕ). x * 2 + y)
    (ap (λ (x : ℕ). bit_and x (m / 2)) (or_shr a b 1) ∙ and-or k (a / 2) (b / 2) (m / 2) (omega (arith, pow-suc 2 k))
    ∙ ap₂ bit_or (sym (and_shr a m 1)) (sym (and_shr b m 1)))
    (ap (λ (x : ℕ). min x (m % 2)) (or_mod a b 1)
    ∙ bits (a % 2) (b % 2) (m % 2) (mod-lt a (lit< tt)) (mod-lt b (lit< tt)) (mod-lt m (lit< tt))
    ∙ ap₂ max (sym (and_mod a m 1)) (sym (and_mod b m 1)))
    ∙ sym (or_step (bit_and a m) (bit_and b m))

or-zero : (x y : ℕ) → eqb (bit_or x y) 0 ≡ (eqb x 0 && eqb y 0)
or-zero x y =
    both_zero (bit_or x y) x y (λ e f. omega (arith, or_add_and x y))
    (λ z. (omega (arith, or_add_and x y, and_le_r x y), omega (arith, or_add_and x y, and_le_l x y)))

top-bits-lt : (n : ℕ) → top_bits n < 2 ^ (8 * n)
unfolding top_bits
top-bits-lt zero = lit< tt
top-bits-lt (suc n) = rw (eight-more n) (omega (arith, top-bits-lt n))

masked-or : (n a b : ℕ) → eqb (bit_and (bit_or a b) (top_bits n)) 0 ≡ (eqb (bit_and a (top_bits n)) 0 && eqb (bit_and b (top_bits n)) 0)
masked-or n a b =
    ap (λ (x : ℕ). eqb x 0) (and-or (8 * n) a b (top_bits n) (top-bits-lt n)) ∙ or-zero (bit_and a (top_bits n)) (bit_and b (top_bits n))

-- so one test serves for the words that were put together by ors: here is one word more
pub masked-next : (s : List ℕ) (at n k all : ℕ) → ((i : ℕ) → get_or s i 0 < 0x100) → at + k + n ≤ length s
    → eqb (bit_and all (top_bits n)) 0 ≡ all_below 0x80 (part s at k)
    → eqb (bit_and (bit_or all (little_endian (part s (at + k) n))) (top_bits n)) 0 ≡ all_below 0x80 (part s at (k + n))
masked-next s at n k all h l e =
    masked-or n all (little_endian (part s (at + k) n)) ∙ ap₂ (λ (p q : Bool). p && q) e (masked-part s (at + k) n h l)
    ∙ sym (ap (all_below 0x80) (take-add k n (drop at s) ∙ ap (λ (t : List ℕ). part s at k ++ take n t) (drop-drop k at s))
    ∙ all_append 0x80 (part s at k) (part s (at + k) n))

-- ---- a word

-- one byte below the others
byte-below : (b : ℕ) (s : List ℕ) (k : ℕ)
    → sum_through (λ i. byte_worth i (get_or (b ∷ s) i 0)) (suc k) ≡ b + sum_through (λ i. byte_worth i (get_or s i 0)) k * 0x100
byte-below b s zero = omega arith
byte-below b s (suc k) =
    let e : 0x100 ^ suc (suc k) ≡ 0x100 ^ suc k * 0x100 = pow-suc 0x100 (suc k) in
    rw (byte-below b s k, e) (omega arith)

-- std's number of bytes is theirs
pub worth-of : (s : List ℕ) (k : ℕ) → length s ≡ suc k → sum_through (λ i. byte_worth i (get_or s i 0)) k ≡ little_endian s
unfolding little_endian
worth-of [] k h = absurd (omega (arith, h))
worth-of (b ∷ []) zero h = omega arith
worth-of (b ∷ []) (suc k) h = absurd (omega (arith, h))
worth-of (b ∷ c ∷ s) zero h = absurd (omega (arith, h))
worth-of (b ∷ c ∷ s) (suc k) h = byte-below b (c ∷ s) k ∙ rw (worth-of (c ∷ s) k (omega (arith, h))) (omega arith)
