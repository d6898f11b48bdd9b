-- What was read lies inside the buffer that was lent for it. Assumes nothing.
use mathlib.Core.Path.{◌≡◌, refl}
use mathlib.Core.Bool.{Bool, true, false, cond}
use mathlib.Core.List.{List, [], ◌∷◌}
use Prim.Native.Nat.{ℕ, zero, suc, ◌+◌, ◌≤◌}
use native.Mathlib.Omega.{arith}
use lib.Dec.{eqb, ltb}
use lib.ListN.{length, length-append}
use borrow.Author.Tests.{ltb-false}
use Rattle.numbers.specs.BigEndian.{big_endian}
use Rattle.refusal.specs.Answer.{Answer, returned, refused}
use Rattle.framing.specs.Feed.{Reading, message, keep-alive, Waiting, chunk, header, Progress, done, waits, start, ended, opened, step, unless_done, feed}
use Rattle.bolt.specs.Limits.{most_bytes}
use Rattle.framing.specs.Reading.{message-of, telling, closed, frame_of}

clash : ◌≡◌ {A = ℕ} 0 1 → ⊥
clash z = omega arith

-- ---- the reader
-- a message is no longer than the buffer
abbrev Fits : ℕ → Answer Reading → Type 0
Fits room (returned (message m used)) = length m ≤ room
Fits room (returned (keep-alive used)) = Unit {0}
Fits room (refused number place) = Unit {0}

-- what has come of a message, and what its chunk brings, is no longer than the buffer
abbrev Holds : ℕ → Waiting → Type 0
Holds room (chunk got used left) = length got + left ≤ room
Holds room (header got used high) = length got ≤ room

abbrev Held : ℕ → Progress → Type 0
Held room (done a) = Fits room a
Held room (waits w) = Holds room w

module _ (alive : Bool) (room : ℕ) where
  ended-fits : (b : Bool) (got : List ℕ) (used : ℕ) → length got ≤ room → Fits room (ended b got used)
  ended-fits b (x ∷ got) used h = h
  ended-fits true [] used h = tt
  ended-fits false [] used h = tt

  opened-holds : (got : List ℕ) (used n : ℕ) → length got ≤ room → Held room (opened alive room got used n)
  opened-holds got used n h = by (eqb n 0) (ltb most_bytes (length got + n)) (ltb room (length got + n)) refl
    where
      by : (a b c : Bool) → ltb room (length got + n) ≡ c
          → Held room (cond a (done (ended alive got used)) (cond b (done (refused 6 0)) (cond c (done (refused 21 0)) (waits (chunk got used n)))))
      by true b c e = ended-fits alive got used h
      by false true c e = tt
      by false false true e = tt
      by false false false e = ltb-false room (length got + n) e

  step-holds : (w : Waiting) (b : ℕ) → Holds room w → Held room (step alive room w b)
  step-holds (chunk got used (suc left)) b h = omega (arith, h, length-append got (b ∷ []))
  step-holds (chunk got used zero) b h = omega (arith, h)
  step-holds (header got used high) b h = opened-holds got (used + 1) (big_endian (high ∷ b ∷ [])) h

  feed-holds : (s : List ℕ) (w : Waiting) → Holds room w → Held room (feed alive room w s)
  unfolding feed
  feed-holds [] w h = h
  feed-holds (b ∷ s) w h = goes (step alive room w b) (step-holds w b h) (λ v k. feed-holds s v k)
    where
      goes : (p : Progress) → Held room p → ((v : Waiting) → Holds room v → Held room (feed alive room v s))
          → Held room (unless_done p (λ v. feed alive room v s))
      goes (done a) k go = k
      goes (waits v) k go = go v k

  frame-fits : (s : List ℕ) → Fits room (frame_of alive room s)
  unfolding frame_of
  frame-fits s = closes (feed alive room start s) (feed-holds s start (omega arith))
    where
      closes : (p : Progress) → Held room p → Fits room (closed p)
      closes (done a) k = k
      closes (waits w) k = tt

  -- the length that the reader tells
  pub told-fits : (s : List ℕ) {size used : ℕ} → returned (message-of size used) ≡ telling (frame_of alive room s) → size ≤ room
  told-fits s {size} {used} e = by (frame_of alive room s) (frame-fits s) e
    where
      by : (a : Answer Reading) → Fits room a → returned (message-of size used) ≡ telling a → size ≤ room
      by (returned (message m n)) k e = let z : size ≡ length m = cc in omega arith
      by (returned (keep-alive n)) k e = absurd (clash (cc))
      by (refused number place) k e = absurd (clash (cc))
