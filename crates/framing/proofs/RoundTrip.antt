-- Reading undoes chunking. Assumes nothing.
use mathlib.Core.Path.{◌≡◌, refl, sym, ap, ◌∙◌}
use mathlib.Core.List.{List, [], ◌∷◌, ◌++◌, append_assoc, append-nil}
use mathlib.Core.Bool.{Bool, true, false, false≢true, and-eq-true_iff}
use Prim.Native.Nat.{ℕ, zero, suc, ◌+◌, ◌*◌, ◌/◌, ◌%◌, ◌<◌, ◌≤◌}
use native.Mathlib.Nat.{zero-add, suc-mul, div-add-mod'}
use native.Mathlib.Omega.{arith}
use lib.Dec.{leb}
use lib.ListN.{length, take, drop, length-append, length-drop, take-append-drop}
use lib.Seq.{length-take-le, take_at, drop_at}
use borrow.Author.Tests.{ne_eqb, le-ltb, leb-true}
use Rattle.numbers.specs.BigEndian.{big_endian, bytes_of}
use Rattle.numbers.proofs.BigEndian.{read_back}
use Rattle.refusal.specs.Answer.{returned}
use Rattle.framing.specs.Feed.{message, chunk, feed}
use Rattle.bolt.specs.Limits.{most_bytes}
use Rattle.framing.specs.Reading.{closed, frame_of, used}
use Rattle.framing.specs.Chunking.{chunk_of, end, remainder, wholes, chunked}
use Rattle.framing.specs.RoundTrip.{Sent, chunks, empty, sendable, wire, arrives, all_sendable, wire_all, arrive_all, frames_of, Claim}
use Rattle.framing.proofs.Feeding.{feed-chunk, feed-header}
use Rattle.framing.proofs.Scanning.{some-ended}
use Rattle.framing.proofs.Chunking.{length-chunk}

-- a keep-alive
empty-read : (room : ℕ) (alive : Bool) → alive ≡ true → (s : List ℕ) → frame_of alive room (end ++ s) ≡ returned (arrives empty)
unfolding frame_of feed big_endian
empty-read room true e s = refl
empty-read room false e s = absurd (false≢true e)

module _ (alive : Bool) (room : ℕ) where
  -- one chunk
  chunk_read : (v got : List ℕ) (at : ℕ) (s : List ℕ) → 0 < length v → length got + length v ≤ most_bytes → length got + length v ≤ room
      → feed alive room (chunk got at 0) (chunk_of v ++ s) ≡ feed alive room (chunk (got ++ v) (at + (length v + 2)) 0) s
  unfolding bytes_of
  chunk_read v got at s pos small fits =
      let n : ℕ = length v in
      let e : big_endian (bytes_of 2 n) ≡ n = read_back 2 n (omega arith) in
      let u : at + 2 + n ≡ at + (n + 2) = omega arith in
      let h : n ≤ length (v ++ s) = simp length-append (omega arith) in
      feed-header alive room got at (n / 256 % 256) (n / 1 % 256) (v ++ s)
      ∙ simp (e, ne_eqb n 0 (λ z. omega arith), le-ltb most_bytes (length got + n) small, le-ltb room (length got + n) fits)
      (feed-chunk alive room n got (at + 2) (v ++ s) h ∙ rw (take_at v s n refl, drop_at v s n refl, u) refl)

  -- the end of a message
  end_read : (got : List ℕ) (at : ℕ) (s : List ℕ) → 0 < length got → closed (feed alive room (chunk got at 0) (end ++ s)) ≡ returned (message got (at + 2))
  unfolding big_endian
  end_read got at s h = ap closed (feed-header alive room got at 0 0 s) ∙ some-ended alive got (at + 2) h

  rest_read : (m got : List ℕ) (at : ℕ) (s : List ℕ) → 0 < length got + length m → length got + length m ≤ most_bytes → length got + length m ≤ room
      → closed (feed alive room (chunk got at 0) ((remainder m ++ end) ++ s)) ≡ returned (message (got ++ m) (at + length (remainder m ++ end)))
  rest_read [] got at s pos small fits = end_read got at s (omega (arith, pos)) ∙ rw append-nil refl
  rest_read (b ∷ m) got at s pos small fits =
      let v : List ℕ = b ∷ m in
      let l : length (got ++ v) ≡ length got + length v = length-append got v in
      let u : at + (length v + 2) + 2 ≡ at + length (chunk_of v ++ end) = omega (arith, length-append (chunk_of v) end, length-chunk v) in
      ap (λ (t : List ℕ). closed (feed alive room (chunk got at 0) t)) (append_assoc (chunk_of v) end s)
      ∙ ap closed (chunk_read v got at (end ++ s) (omega arith) small fits)
      ∙ end_read (got ++ v) (at + (length v + 2)) s (omega arith)
      ∙ ap (λ (k : ℕ). returned (message (got ++ v) k)) u

  wholes-read : (q r c : ℕ) (m got : List ℕ) (at : ℕ) (s : List ℕ) → length m ≡ q * c + r → 0 < c
      → 0 < length got + length m → length got + length m ≤ most_bytes → length got + length m ≤ room
      → closed (feed alive room (chunk got at 0) (wholes q c m ++ s)) ≡ returned (message (got ++ m) (at + length (wholes q c m)))
  unfolding wholes
  wholes-read zero r c m got at s h c+ pos small fits = rest_read m got at s pos small fits
  wholes-read (suc q) r c m got at s h c+ pos small fits =
      let k : length m ≡ q * c + c + r = h ∙ rw suc-mul refl in
      let v : List ℕ = take c m in
      let w : List ℕ = wholes q c (drop c m) in
      let lt : length v ≡ c = length-take-le c m (omega arith) in
      let ld : length (drop c m) ≡ q * c + r = length-drop c m ∙ omega arith in
      let lg : length (got ++ v) ≡ length got + c = length-append got v ∙ rw lt refl in
      let u : at + (length v + 2) + length w ≡ at + length (chunk_of v ++ w) = omega (arith, length-append (chunk_of v) w, length-chunk v) in
      let g : got ++ v ++ drop c m ≡ got ++ m = append_assoc got v (drop c m) ∙ rw take-append-drop refl in
      ap (λ (t : List ℕ). closed (feed alive room (chunk got at 0) t)) (append_assoc (chunk_of v) w s)
      ∙ ap closed (chunk_read v got at (w ++ s) (omega arith) (omega arith) (omega arith))
      ∙ wholes-read q r c (drop c m) (got ++ v) (at + (length v + 2)) s ld c+ (omega arith) (omega arith) (omega arith)
      ∙ rw (g, u) refl

  chunked-read : (c : ℕ) (m s : List ℕ) → 0 < c → 0 < length m → length m ≤ most_bytes → length m ≤ room
      → frame_of alive room (chunked c m ++ s) ≡ returned (message m (length (chunked c m)))
  unfolding frame_of chunked
  chunked-read c m s c+ pos small fits =
      wholes-read (length m / c) (length m % c) c m [] 0 s (sym (div-add-mod' (length m) c)) c+ (omega arith) (omega arith) (omega arith)
      ∙ rw zero-add refl

  one : (x : Sent) (after : List ℕ) → sendable alive room x ≡ true → frame_of alive room (wire x ++ after) ≡ returned (arrives x)
  one (chunks c m) after e =
      let a = (and-eq-true_iff (leb 1 c) _).0 e in
      let b = (and-eq-true_iff (leb c 65535) _).0 a.1 in
      let d = (and-eq-true_iff (leb 1 (length m)) _).0 b.1 in
      let f = (and-eq-true_iff (leb (length m) most_bytes) _).0 d.1 in
      chunked-read c m after (leb-true 1 c a.0) (leb-true 1 (length m) d.0) (leb-true (length m) most_bytes f.0) (leb-true (length m) room f.1)
  one empty after e = empty-read room alive e after

  -- exactly the bytes of a reading are passed
  past : (x : Sent) (s : List ℕ) → drop (used (arrives x)) (wire x ++ s) ≡ s
  past (chunks c m) s = drop_at (chunked c m) s (length (chunked c m)) refl
  past empty s = refl

  many : (xs : List Sent) (after : List ℕ) → all_sendable alive room xs ≡ true → frames_of alive room (length xs) (wire_all xs ++ after) ≡ arrive_all xs
  unfolding frames_of wire_all
  many [] after e = refl
  many (x ∷ xs) after e =
      let both = (and-eq-true_iff (sendable alive room x) (all_sendable alive room xs)).0 e in
      let r : frame_of alive room (wire x ++ (wire_all xs ++ after)) ≡ returned (arrives x) = one x (wire_all xs ++ after) both.0 in
      rw (append_assoc (wire x) (wire_all xs) after, r, past x (wire_all xs ++ after), many xs after both.1) refl

pub round_trip : Claim
round_trip alive room = record { one = one alive room; many = many alive room }
