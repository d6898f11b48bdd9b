-- The scan of the headers: how far a reading has come, and what each header leads to. Assumes nothing.
use mathlib.Core.Path.{◌≡◌, refl, ap, ◌∙◌}
use mathlib.Core.List.{List, [], ◌∷◌, ◌++◌}
use mathlib.Core.Bool.{Bool}
use Prim.Native.Nat.{ℕ, ◌+◌, ◌-◌, ◌*◌, ◌<◌, ◌≤◌}
use native.Mathlib.Omega.{arith}
use lib.ListN.{length, drop, length-drop, length-append}
use lib.Seq.{drop-drop}
use borrow.Author.Tests.{eq-eqb, ne_eqb, lt-ltb, le-ltb}
use Rattle.slices.specs.Parts.{part}
use Rattle.slices.proofs.Parts.{length_part}
use Rattle.numbers.specs.BigEndian.{big_endian}
use Rattle.refusal.specs.Answer.{returned, refused}
use Rattle.framing.specs.Feed.{message, chunk, start, ended, opened, unless_done, feed}
use Rattle.bolt.specs.Limits.{most_bytes}
use Rattle.framing.specs.Reading.{closed, frame_of}
use Rattle.framing.proofs.Feeding.{feed-chunk, feed-cut, feed-few, feed-header-at}

-- the reading of s has come to the header at `at`, and has got `sum` bytes of the message
pub record Came (alive : Bool) (room : ℕ) (s : List ℕ) (at sum : ℕ) : Type 0 where
  pub got : List ℕ
  pub count : length got ≡ sum
  pub reads : feed alive room start s ≡ feed alive room (chunk got at 0) (drop at s)

unfoldable pub came-none : (alive : Bool) (room : ℕ) (s : List ℕ) → Came alive room s 0 0
came-none alive room s = record { got = []; count = refl; reads = refl }

-- a size of zero after some bytes, and after none
pub some-ended : (alive : Bool) (got : List ℕ) (used : ℕ) → 0 < length got → ended alive got used ≡ returned (message got used)
some-ended alive [] used h = absurd (omega (arith, h))
some-ended alive (b ∷ got) used h = refl

none-ended : (alive : Bool) (got : List ℕ) (used : ℕ) → length got ≡ 0 → ended alive got used ≡ ended alive [] used
none-ended alive [] used h = refl
none-ended alive (b ∷ got) used h = absurd (omega (arith, h))

module _ {alive : Bool} {room : ℕ} {s : List ℕ} {at sum : ℕ} (w : Came alive room s at sum) where
  -- no header has come
  pub at-few : length s - at < 2 → frame_of alive room s ≡ refused 4 0
  unfolding frame_of
  at-few h = ap closed w.reads ∙ feed-few alive room w.got at (drop at s) (simp length-drop (omega arith))

  -- a header of n has come
  module _ {n : ℕ} (fits : at + 2 ≤ length s) (size : n ≡ big_endian (part s at 2)) where
    at-header : frame_of alive room s ≡ closed (unless_done (opened alive room w.got (at + 2) n) (λ v. feed alive room v (drop (at + 2) s)))
    unfolding frame_of
    at-header = ap closed (w.reads ∙ feed-header-at alive room w.got at at s n fits size)

    pub at-message : n ≡ 0 → 0 < sum → frame_of alive room s ≡ returned (message w.got (at + 2))
    at-message e h = at-header ∙ simp (eq-eqb n 0 e, some-ended alive w.got (at + 2) (omega (arith, w.count)))

    pub at_none : n ≡ 0 → sum ≡ 0 → frame_of alive room s ≡ ended alive [] (at + 2)
    at_none e h = at-header ∙ simp (eq-eqb n 0 e, none-ended alive w.got (at + 2) (w.count ∙ h))

    module _ (more : n ≡ 0 → ⊥) where
      pub at_long : most_bytes < sum + n → frame_of alive room s ≡ refused 6 0
      at_long h = at-header ∙ simp (ne_eqb n 0 more, w.count, lt-ltb most_bytes (sum + n) h)

      module _ (small : sum + n ≤ most_bytes) where
        pub at_room : room < sum + n → frame_of alive room s ≡ refused 21 0
        at_room h = at-header ∙ simp (ne_eqb n 0 more, w.count, le-ltb most_bytes (sum + n) small, lt-ltb room (sum + n) h)

        module _ (room_for : sum + n ≤ room) where
          pub at_cut : length s - at - 2 < n → frame_of alive room s ≡ refused 4 0
          at_cut h =
              at-header ∙ simp (ne_eqb n 0 more, w.count, le-ltb most_bytes (sum + n) small, le-ltb room (sum + n) room_for)
              (feed-cut alive room n w.got (at + 2) (drop (at + 2) s) (simp length-drop (omega arith)))

          -- the chunk has come whole: the reading goes on at the next header
          unfoldable pub at_next : n ≤ length s - at - 2 → Came alive room s (at + (n + 2)) (sum + n)
          at_next h =
              let e : at + 2 + n ≡ at + (n + 2) = omega arith in
              let l : n ≤ length (drop (at + 2) s) = simp length-drop (omega arith) in
              record {
                got = w.got ++ part s (at + 2) n;
                count = length-append w.got (part s (at + 2) n) ∙ rw (w.count, length_part s (at + 2) n (omega arith)) refl;
                reads =
                    w.reads ∙ feed-header-at alive room w.got at at s n fits size
                    ∙ simp (ne_eqb n 0 more, w.count, le-ltb most_bytes (sum + n) small, le-ltb room (sum + n) room_for)
                    (feed-chunk alive room n w.got (at + 2) (drop (at + 2) s) l ∙ rw (drop-drop, e) refl);
              }

-- ---- the loops of the scan
-- at a header: `thin`, since each chunk has a byte at least; so with nothing got the scan stands at the front
pub record AtHeader (alive : Bool) (room : ℕ) (s : List ℕ) (at sum : ℕ) : Type 0 where
  pub inside : at ≤ length s
  pub small : sum ≤ most_bytes
  pub thin : at ≤ 3 * sum
  pub came : Came alive room s at sum

-- at a header of n bytes, in a run of chunks of that size that starts at `first`
pub record InRun (alive : Bool) (room : ℕ) (s : List ℕ) (first n at sum : ℕ) : Type 0 where
  pub onward : first ≤ at
  pub fits : at + 2 ≤ length s
  pub size : n ≡ big_endian (part s at 2)
  pub narrow : n < 65536
  pub some : n ≡ 0 → ⊥
  pub small : sum ≤ most_bytes
  pub thin : at ≤ 3 * sum
  pub came : Came alive room s at sum

-- one more chunk of the run has come whole
module _
    {alive : Bool} {room : ℕ} {s : List ℕ} {first n at sum : ℕ} (r : InRun alive room s first n at sum)
    (small : sum + n ≤ most_bytes) (room_for : sum + n ≤ room) (whole : n ≤ length s - at - 2)
  where
    pub run-came : Came alive room s (at + (n + 2)) (sum + n)
    run-came = at_next r.came r.fits r.size r.some small room_for whole

    pub run_inside : at + (n + 2) ≤ length s
    run_inside = omega (arith, whole, r.fits)

    pub run-onward : first < at + (n + 2)
    run-onward = omega (arith, r.onward)

    pub run-header : AtHeader alive room s (at + (n + 2)) (sum + n)
    run-header = record { inside = run_inside; small = small; thin = thin r.thin r.some; came = run-came }
      where
        thin : at ≤ 3 * sum → (n ≡ 0 → ⊥) → at + (n + 2) ≤ 3 * (sum + n)
        thin h k = omega arith

    pub run-next : 2 ≤ length s - (at + (n + 2)) → n ≡ big_endian (part s (at + (n + 2)) 2) → InRun alive room s first n (at + (n + 2)) (sum + n)
    run-next fits size = record {
      onward = omega (arith, run-onward);
      fits = omega (arith, run_inside, fits);
      size = size;
      narrow = r.narrow;
      some = r.some;
      small = small;
      thin = run-header.thin;
      came = run-came;
    }
