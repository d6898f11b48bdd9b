-- Laws of the chunk writer: a chunk's bytes, what comes next of a message in chunks, the length of it all, and which answer is given.
-- Assumes nothing.
use mathlib.Core.Path.{◌≡◌, refl, sym, ap, subst, ◌∙◌}
use mathlib.Core.Logic.{⊎_elim}
use mathlib.Core.List.{List, [], ◌∷◌, ◌++◌, append-nil}
use Prim.Native.Nat.{ℕ, zero, suc, ◌+◌, ◌-◌, ◌*◌, ◌/◌, ◌%◌, ◌<◌, ◌≤◌}
use native.Mathlib.Nat.{zero-add, zero-mul, suc-mul, div-add-mod', div-eq-sub-div, div-eq_of_lt}
use native.Mathlib.Omega.{arith}
use native.Mathlib.Numerals.{add-one}
use lib.ListN.{length, set, take, drop, length-append, length-drop}
use lib.Seq.{length-take-le, take_at, drop_at, sets}
use borrow.Author.Tests.{ne_eqb, le-ltb}
use Rattle.slices.specs.Parts.{part, copied, front}
use Rattle.slices.proofs.Parts.{length_part, fits-yes}
use Rattle.slices.proofs.Pieces.{Put, put-fits, put_next, put-done}
use Rattle.slices.proofs.Tests.{lt-or-ge}
use Rattle.std.specs.Prelude.{min}
use Rattle.numbers.specs.BigEndian.{bytes_of}
use Rattle.numbers.proofs.BigEndian.{bytes_of-two}
use Rattle.refusal.specs.Answer.{returned}
use Rattle.bolt.specs.Limits.{most_bytes}
use Rattle.framing.specs.Chunking.{chunk_of, end, remainder, wholes, chunked, writing}

-- ---- one chunk
pub length-chunk : (v : List ℕ) → length (chunk_of v) ≡ length v + 2
unfolding bytes_of
length-chunk v = omega arith

-- two size bytes and a copy are a chunk
pub put-chunk : (s d : List ℕ) (start size to : ℕ) → size < 65536 → start + size ≤ length s → to + (size + 2) ≤ length d
    → length (set (set d to (size / 256)) (to + 1) (size % 256)) ≡ length d
    → copied s start size (set (set d to (size / 256)) (to + 1) (size % 256)) (to + 2) ≡ sets d to (chunk_of (part s start size))
put-chunk s d start size to h k room l =
    let e : to + 2 ≡ suc (suc to) = omega arith in
    let f : to + 2 + size ≤ length (set (set d to (size / 256)) (to + 1) (size % 256)) = omega (arith, l, room) in
    rw (length_part s start size k, bytes_of-two size h)
    (rw (fits-yes s start size (set (set d to (size / 256)) (to + 1) (size % 256)) (to + 2) k f) (rw (e, add-one to) refl))

-- ---- what comes next
remainder-some : (m : List ℕ) → (length m ≡ 0 → ⊥) → remainder m ≡ chunk_of m
remainder-some [] h = absurd (h refl)
remainder-some (b ∷ m) h = refl

module _ (c : ℕ) (pos : 0 < c) where
  -- nothing more but the end
  chunked-none : chunked c [] ≡ end ++ []
  unfolding chunked wholes
  chunked-none = rw (div-eq_of_lt pos) refl

  -- one chunk of a message that is no longer than a chunk
  chunked-last : (v r : List ℕ) → length (v ++ r) < c → length r ≡ 0 → 0 < length (v ++ r) → chunked c (v ++ r) ≡ chunk_of v ++ chunked c r
  unfolding chunked wholes
  chunked-last v [] less none some =
      let e : v ++ [] ≡ v = append-nil v in
      let l : length v < c = rw e at less in
      let k : 0 < length v = rw e at some in
      rw (e, div-eq_of_lt l, div-eq_of_lt pos, remainder-some v (λ z. omega (arith, z, k))) refl
  chunked-last v (x ∷ r) less none some = absurd (omega (arith, none))

  -- a whole chunk more
  chunked-whole : (v r : List ℕ) → length v ≡ c → chunked c (v ++ r) ≡ chunk_of v ++ chunked c r
  unfolding chunked wholes
  chunked-whole v r k =
      let h : c ≤ length (v ++ r) = omega (arith, length-append v r) in
      let e : length (v ++ r) - c ≡ length r = omega (arith, length-append v r) in
      rw (div-eq-sub-div pos h, e, add-one) (rw (take_at v r c k, drop_at v r c k) refl)

  -- a message's first chunk, and the others
  chunked-next : (v r : List ℕ) → length v ≡ min c (length (v ++ r)) → 0 < length (v ++ r) → chunked c (v ++ r) ≡ chunk_of v ++ chunked c r
  chunked-next v r n some =
      ⊎_elim (λ h. chunked-last v r h (omega (arith, n, h, length-append v r)) some) (λ h. chunked-whole v r (omega (arith, n, h)))
      (lt-or-ge (length (v ++ r)) c)

-- a message that one chunk holds
pub single : (c : ℕ) (v : List ℕ) → 0 < length v → length v < c → chunked c v ≡ chunk_of v ++ end
unfolding chunked wholes
single c v some less = rw (div-eq_of_lt less, remainder-some v (λ z. omega (arith, z, some))) refl

-- ---- the writer's loop: all but what is left of the message in chunks stands in front of the buffer
module _ {c : ℕ} {out d₀ d : List ℕ} {to : ℕ} (pos : 0 < c) (room : length out ≤ length d₀) where
  module _ (s v r : List ℕ) (e : s ≡ v ++ r) (n : length v ≡ min c (length s)) (some : 0 < length s) (w : Put out d₀ d to (chunked c s)) where
    more : Put out d₀ d to (chunk_of v ++ chunked c r)
    more = subst (Put out d₀ d to) (ap (chunked c) e ∙ chunked-next c pos v r (rw e at n) (rw e at some)) w

    pub chunk-fits : to + (length v + 2) ≤ length d₀
    chunk-fits = omega (arith, put-fits (chunk_of v) (chunked c r) more, length-chunk v, room)

    pub chunk-next : Put out d₀ (sets d to (chunk_of v)) (to + (length v + 2)) (chunked c r)
    chunk-next = rw (length-chunk v) at (put_next (chunk_of v) (chunked c r) more room)

  module _ (s : List ℕ) (none : length s ≡ 0) (w : Put out d₀ d to (chunked c s)) where
    last : Put out d₀ d to (end ++ [])
    last = subst (Put out d₀ d to) (by s none) w
      where
        by : (s : List ℕ) → length s ≡ 0 → chunked c s ≡ end ++ []
        by [] none = chunked-none c pos
        by (b ∷ s) none = absurd (omega (arith, none))

    pub end_fits : to + 2 ≤ length d₀
    end_fits = omega (arith, put-fits end [] last, room)

    pub end-done : sets d to end ≡ front out d₀
    end-done = put-done (put_next end [] last room)

-- ---- the length of it all
-- the bytes that are neither the message's nor the sizes of whole chunks
abbrev pub closing : ℕ → ℕ
closing zero = 2
closing (suc r) = 4

remainder-length : (m : List ℕ) → length (remainder m ++ end) ≡ length m + closing (length m)
unfolding bytes_of
remainder-length [] = refl
remainder-length (b ∷ m) = length-append (chunk_of (b ∷ m)) end ∙ omega arith

wholes-length : (q r c : ℕ) (m : List ℕ) → length m ≡ q * c + r → length (wholes q c m) ≡ length m + 2 * q + closing r
unfolding wholes
wholes-length zero r c m h =
    let e : length m ≡ r = h ∙ rw (zero-mul, zero-add) refl in
    remainder-length m ∙ rw e (omega arith)
wholes-length (suc q) r c m h =
    let k : length m ≡ q * c + c + r = h ∙ rw suc-mul refl in
    let d : length (drop c m) ≡ q * c + r = length-drop c m ∙ omega arith in
    length-append (chunk_of (take c m)) (wholes q c (drop c m))
    ∙ rw (length-chunk (take c m), length-take-le c m (omega arith), wholes-length q r c (drop c m) d, d) (omega arith)

pub length_chunked : (c : ℕ) (m : List ℕ) → length (chunked c m) ≡ length m + 2 * (length m / c) + closing (length m % c)
unfolding chunked
length_chunked c m = wholes-length (length m / c) (length m % c) c m (sym (div-add-mod' (length m) c))

pub closing-some : (r : ℕ) → (r ≡ 0 → ⊥) → closing r ≡ 4
closing-some zero h = absurd (h refl)
closing-some (suc r) h = refl

-- ---- a message that is written
pub written : (c room : ℕ) (m : List ℕ) → (length m ≡ 0 → ⊥) → (c ≡ 0 → ⊥) → c ≤ 65535 → length m ≤ most_bytes → length (chunked c m) ≤ room
    → writing c room m ≡ returned (chunked c m)
unfolding writing
written c room m some pos narrow short h =
    simp (
      ne_eqb (length m) 0 some,
      ne_eqb c 0 pos,
      le-ltb 65535 c narrow,
      le-ltb most_bytes (length m) short,
      le-ltb room (length (chunked c m)) h,
    )
