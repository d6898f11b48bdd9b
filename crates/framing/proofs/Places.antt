-- Every refusal of the frame reader and of the chunk writer is at place 0. Assumes nothing.
use mathlib.Core.Path.{refl}
use mathlib.Core.Bool.{Bool, true, false, cond, ◌||◌}
use mathlib.Core.List.{List, [], ◌∷◌, ◌++◌}
use Prim.Native.Nat.{ℕ, zero, suc, ◌+◌}
use lib.Dec.{ltb, eqb}
use lib.ListN.{length}
use Rattle.numbers.specs.BigEndian.{big_endian}
use Rattle.refusal.specs.Answer.{returned, refused, Placed}
use Rattle.framing.specs.Feed.{Waiting, chunk, header, Progress, done, waits, start, ended, unless_done, feed}
use Rattle.bolt.specs.Limits.{most_bytes}
use Rattle.framing.specs.Reading.{closed, frame_of}
use Rattle.framing.specs.Chunking.{chunked, writing}
use Rattle.framing.specs.Places.{Claim}

ended-placed : (alive : Bool) (got : List ℕ) (used : ℕ) → Placed (ended alive got used)
ended-placed alive (b ∷ got) used = tt
ended-placed true [] used = tt
ended-placed false [] used = λ e. refl

module _ (alive : Bool) (room : ℕ) where
  opened-placed : (x y z : Bool) (got : List ℕ) (used n : ℕ) (go : Waiting → Progress) → ((w : Waiting) → Placed (closed (go w)))
      → Placed (closed (unless_done (cond x (done (ended alive got used))
      (cond y (done (refused 6 0)) (cond z (done (refused 21 0)) (waits (chunk got used n))))) go))
  opened-placed true y z got used n go h = ended-placed alive got used
  opened-placed false true z got used n go h = λ e. refl
  opened-placed false false true got used n go h = λ e. refl
  opened-placed false false false got used n go h = h (chunk got used n)

  feed-placed : (s : List ℕ) (w : Waiting) → Placed (closed (feed alive room w s))
  unfolding feed
  feed-placed [] w = λ e. refl
  feed-placed (b ∷ s) (chunk got used (suc left)) = feed-placed s (chunk (got ++ b ∷ []) (used + 1) left)
  feed-placed (b ∷ s) (chunk got used zero) = feed-placed s (header got (used + 1) b)
  feed-placed (b ∷ s) (header got used high) =
      let n : ℕ = big_endian (high ∷ b ∷ []) in
      opened-placed (eqb n 0) (ltb most_bytes (length got + n)) (ltb room (length got + n)) got (used + 1) n (λ w. feed alive room w s) (feed-placed s)

  frame-placed : (s : List ℕ) → Placed (frame_of alive room s)
  unfolding frame_of
  frame-placed s = feed-placed s start

writing-placed : (c room : ℕ) (m : List ℕ) → Placed (writing c room m)
unfolding writing
writing-placed c room m =
    by (eqb (length m) 0 || (eqb c 0 || ltb 65535 c)) (ltb most_bytes (length m)) (ltb room (length (chunked c m)))
  where
    by : (x y z : Bool) → Placed (cond x (refused 22 0) (cond y (refused 6 0) (cond z (refused 21 0) (returned (chunked c m)))))
    by true y z = λ e. refl
    by false true z = λ e. refl
    by false false true = λ e. refl
    by false false false = tt

pub places : Claim
places = record { reading = frame-placed; writing = writing-placed }
