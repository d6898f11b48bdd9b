-- The laws of big-endian numbers, once for every width. Assumes nothing.
use mathlib.Core.Path.{◌≡◌, refl, sym, ap, ap₂, ◌∙◌, subst}
use mathlib.Core.Bool.{Bool}
use mathlib.Core.List.{List, [], ◌∷◌, ◌++◌}
use Prim.Native.Nat.{ℕ, zero, suc, ◌+◌, ◌*◌, ◌-◌, ◌/◌, ◌%◌, ◌^◌, ◌≤◌, ◌<◌}
use native.Mathlib.Nat.{pow-suc, pow-le-pow_right, mod-eq_of_lt, mod-lt, mod-one, mul-add-div_right, one-le-pow, zero-lt-suc}
use native.Mathlib.Numerals.{add-one}
use native.Mathlib.Omega.{arith}
use lib.Arith.{digits_div, digits_lt, mod-mul}
use lib.Dec.{eqb, lit<}
use lib.ListN.{length, get_or, set, drop, length-append, length-drop}
use lib.Pow.{pow-add}
use lib.Seq.{take-suc, get_or-drop, sets}
use borrow.Author.Tests.{eqb-true}
use Rattle.slices.specs.Parts.{part}
use Rattle.slices.proofs.Below.{below}
use Rattle.numbers.specs.BigEndian.{big_endian, bytes_of, Bytes}

-- ---- powers of 256
pub pow256-pos : (k : ℕ) → 0 < 256 ^ k
pow256-pos k = one-le-pow k 256 (zero-lt-suc 255)

pub pow256-suc : (k : ℕ) → 256 ^ suc k ≡ 256 * 256 ^ k
pow256-suc k = omega arith

pub pow256-mono : (i j : ℕ) → i ≤ j → 256 ^ i ≤ 256 ^ j
pow256-mono i j h = pow-le-pow_right {n = 256} (lit< tt) {i = i} {j = j} h

-- a shift by eight bits a byte divides by 256 a byte
pub pow256-bits : (k : ℕ) → 2 ^ (8 * k) ≡ 256 ^ k
pow256-bits zero = refl
pow256-bits (suc k) =
    ap (λ (n : ℕ). 2 ^ n) (eight k) ∙ pow-add 2 (8 * k) 8 ∙ ap (λ (n : ℕ). n * 256) (pow256-bits k) ∙ sym (pow-suc 256 k)
  where
    eight : (k : ℕ) → 8 * suc k ≡ 8 * k + 8
    eight k = omega arith

-- all ones, shifted down to k bytes, is the largest number of k bytes
largest_test : ℕ → Bool
largest_test j = eqb ((2 ^ 64 - 1) / 2 ^ (64 - 8 * suc j)) (256 ^ suc j - 1)

pub largest-is : (k : ℕ) → 1 ≤ k → k ≤ 8 → (2 ^ 64 - 1) / 2 ^ (64 - 8 * k) ≡ 256 ^ k - 1
unfolding largest_test
largest-is zero h l = absurd (none h)
  where
    none : 1 ≤ 0 → ⊥
    none h = omega arith
largest-is (suc j) h l =
    eqb-true ((2 ^ 64 - 1) / 2 ^ (64 - 8 * suc j)) (256 ^ suc j - 1) (below largest_test 8 refl j (omega arith))

-- ---- the number of a list of bytes
-- it is below 256 to the length
pub big_lt : (s : List ℕ) → Bytes s → big_endian s < 256 ^ length s
unfolding big_endian
big_lt [] h = omega arith
big_lt (b ∷ bs) h =
    subst (λ (n : ℕ). b * 256 ^ length bs + big_endian bs < n) (sym (pow256-suc (length bs)))
    (digits_lt {m = 256} (h 0) (big_lt bs (λ i. h (suc i))))

-- one byte more at the end
pub big-snoc : (s : List ℕ) (b : ℕ) → big_endian (s ++ b ∷ []) ≡ big_endian s * 256 + b
unfolding big_endian
big-snoc [] b = omega arith
big-snoc (a ∷ s) b =
    let e : 256 ^ length (s ++ b ∷ []) ≡ 256 * 256 ^ length s =
    ap (λ (n : ℕ). 256 ^ n) (length-append s (b ∷ []) ∙ add-one (length s)) ∙ pow256-suc (length s) in
    ap₂ (λ (p q : ℕ). a * p + q) e (big-snoc s b) ∙ regroup a (256 ^ length s) (big_endian s) b
  where
    regroup : (a p n b : ℕ) → a * (256 * p) + (n * 256 + b) ≡ (a * p + n) * 256 + b
    regroup a p n b = omega arith

-- a part with one byte more
pub big-part : (s : List ℕ) (at i : ℕ) → at + i < length s
    → big_endian (part s at (i + 1)) ≡ big_endian (part s at i) * 256 + get_or s (at + i) 0
big-part s at i h =
    ap big_endian (ap (λ (n : ℕ). part s at n) (add-one i) ∙ take-suc (drop at s) i 0 (in-drop s at i h))
    ∙ big-snoc (part s at i) (get_or (drop at s) i 0)
    ∙ ap (λ (b : ℕ). big_endian (part s at i) * 256 + b) (get_or-drop at s i 0)
  where
    in-drop : (s : List ℕ) (at i : ℕ) → at + i < length s → i < length (drop at s)
    in-drop s at i h = omega (arith, length-drop at s)

-- a part of no bytes, and of one
pub big-none : (s : List ℕ) (at : ℕ) → big_endian (part s at 0) ≡ 0
unfolding big_endian
big-none s at = refl

pub big-one : (s : List ℕ) (at : ℕ) → at < length s → big_endian (part s at 1) ≡ get_or s at 0
unfolding big_endian
big-one s at h =
    let z : at + 0 ≡ at = omega arith in
    big-part s at 0 (omega arith) ∙ ap (λ (k : ℕ). 0 * 256 + get_or s k 0) z ∙ plus (get_or s at 0)
  where
    plus : (n : ℕ) → 0 * 256 + n ≡ n
    plus n = omega arith

-- two bytes, as code without a loop reads them
pub big-two : (s : List ℕ) (at : ℕ) → at + 1 < length s → big_endian (part s at 2) ≡ get_or s at 0 * 256 + get_or s (at + 1) 0
big-two s at h = big-part s at 1 h ∙ ap (λ (n : ℕ). n * 256 + get_or s (at + 1) 0) (big-one s at (omega arith))

-- ---- the bytes of a number
pub length-bytes_of : (k n : ℕ) → length (bytes_of k n) ≡ k
unfolding bytes_of
length-bytes_of zero n = refl
length-bytes_of (suc k) n = ap suc (length-bytes_of k n)

pub bytes-bytes_of : (k n : ℕ) → Bytes (bytes_of k n)
unfolding bytes_of
bytes-bytes_of zero n zero = lit< tt
bytes-bytes_of zero n (suc i) = lit< tt
bytes-bytes_of (suc k) n zero = mod-lt _ (lit< tt)
bytes-bytes_of (suc k) n (suc i) = bytes-bytes_of k n i

-- one byte and two, as code without a loop writes them
pub bytes_of-one : (n : ℕ) → n < 256 → bytes_of 1 n ≡ n ∷ []
unfolding bytes_of
bytes_of-one n h = ap (λ (b : ℕ). b ∷ []) (low n h)
  where
    low : (n : ℕ) → n < 256 → n / 1 % 256 ≡ n
    low n h = omega arith

pub bytes_of-two : (n : ℕ) → n < 65536 → bytes_of 2 n ≡ n / 256 ∷ n % 256 ∷ []
unfolding bytes_of
bytes_of-two n h = ap₂ (λ (a b : ℕ). a ∷ b ∷ []) (high n h) (low n)
  where
    high : (n : ℕ) → n < 65536 → n / 256 % 256 ≡ n / 256
    high n h = omega arith

    low : (n : ℕ) → n / 1 % 256 ≡ n % 256
    low n = omega arith

-- a store takes one byte off what is left to store
pub store-next : (d : List ℕ) (i j n : ℕ) → sets (set d i (n / 2 ^ (8 * j) % 256)) (i + 1) (bytes_of j n) ≡ sets d i (bytes_of (suc j) n)
unfolding bytes_of
store-next d i j n = rw (add-one i, pow256-bits j)

-- what is above the k bytes does not show in them
pub bytes_low : (k x m : ℕ) → bytes_of k (x * 256 ^ k + m) ≡ bytes_of k m
unfolding bytes_of
bytes_low zero x m = refl
bytes_low (suc k) x m =
    let e : x * 256 ^ suc k + m ≡ x * 256 * 256 ^ k + m = regroup x m k in
    ap₂ (λ (b : ℕ) (bs : List ℕ). b ∷ bs)
    (ap (λ (n : ℕ). n / 256 ^ k % 256) e ∙ ap (λ (n : ℕ). n % 256) (mul-add-div_right (pow256-pos k) (x * 256) m) ∙ low x (m / 256 ^ k))
    (ap (bytes_of k) e ∙ bytes_low k (x * 256) m)
  where
    regroup : (x m k : ℕ) → x * 256 ^ suc k + m ≡ x * 256 * 256 ^ k + m
    regroup x m k = omega (arith, ap (λ (p : ℕ). x * p) (pow-suc 256 k))

    low : (x q : ℕ) → (x * 256 + q) % 256 ≡ q % 256
    low x q = omega arith

-- the k bytes of n stand for what of n lies below 256 to the k
pub big-bytes_of : (k n : ℕ) → big_endian (bytes_of k n) ≡ n % 256 ^ k
unfolding bytes_of big_endian
big-bytes_of zero n = sym (mod-one n)
big-bytes_of (suc k) n =
    ap₂ (λ (p q : ℕ). n / 256 ^ k % 256 * 256 ^ p + q) (length-bytes_of k n) (big-bytes_of k n)
    ∙ sym (ap (λ (p : ℕ). n % p) (pow256-suc k) ∙ mod-mul n {m = 256} {c = 256 ^ k} (zero-lt-suc 255) (pow256-pos k))

-- ---- the inverses
-- reading what was written
pub read_back : (k n : ℕ) → n < 256 ^ k → big_endian (bytes_of k n) ≡ n
read_back k n h = big-bytes_of k n ∙ mod-eq_of_lt h

-- writing what was read
pub write-back : (s : List ℕ) → Bytes s → bytes_of (length s) (big_endian s) ≡ s
unfolding bytes_of big_endian
write-back [] h = refl
write-back (b ∷ bs) h =
    let l : big_endian bs < 256 ^ length bs = big_lt bs (λ i. h (suc i)) in
    ap₂ (λ (x : ℕ) (xs : List ℕ). x ∷ xs)
    (ap (λ (n : ℕ). n % 256) (digits_div b l) ∙ mod-eq_of_lt (h 0))
    (bytes_low (length bs) b (big_endian bs) ∙ write-back bs (λ i. h (suc i)))

-- ---- the loops
-- a read of at most eight bytes that is not at its end has room for one byte more
pub load-room : (n i k : ℕ) → n < 256 ^ i → i < k → k ≤ 8 → n < 256 ^ 7
load-room n i k h l m = omega (arith, pow256-mono i 7 (le i k l m))
  where
    le : (i k : ℕ) → i < k → k ≤ 8 → i ≤ 7
    le i k l m = omega arith

pub load-next : (n b i : ℕ) → n < 256 ^ i → b < 256 → n * 256 + b < 256 ^ (i + 1)
load-next n b i h l = omega (arith, ap (λ (j : ℕ). 256 ^ j) (add-one i) ∙ pow256-suc i)
