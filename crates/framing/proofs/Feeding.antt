-- Laws of the feed: two feeds are one, a chunk's bytes as one part, a header, and too few bytes. Assumes nothing.
use mathlib.Core.Path.{◌≡◌, refl, ◌∙◌}
use mathlib.Core.List.{List, [], ◌∷◌, ◌++◌, append_assoc, append-nil}
use mathlib.Core.Bool.{Bool}
use Prim.Native.Nat.{ℕ, zero, suc, ◌+◌, ◌<◌, ◌≤◌}
use native.Mathlib.Nat.{add-zero}
use native.Mathlib.Omega.{arith}
use lib.ListN.{length, get_or, take, drop}
use lib.Seq.{drop-cons}
use Rattle.slices.specs.Parts.{part}
use Rattle.numbers.specs.BigEndian.{big_endian}
use Rattle.refusal.specs.Answer.{refused}
use Rattle.framing.specs.Feed.{Waiting, chunk, Progress, done, waits, opened, step, unless_done, feed}
use Rattle.framing.specs.Reading.{closed}

then-then : (p : Progress) (f g : Waiting → Progress) → unless_done p (λ w. unless_done (f w) g) ≡ unless_done (unless_done p f) g
then-then (done a) f g = refl
then-then (waits w) f g = refl

module _ (alive : Bool) (room : ℕ) where
  -- bytes that come in two parts come to what they come to as one
  pub feed-append : (s t : List ℕ) (w : Waiting) → feed alive room w (s ++ t) ≡ unless_done (feed alive room w s) (λ v. feed alive room v t)
  unfolding feed
  feed-append [] t w = refl
  feed-append (b ∷ s) t w =
      let e : (v : Waiting) → feed alive room v (s ++ t) ≡ unless_done (feed alive room v s) (λ u. feed alive room u t) = λ v. feed-append s t v in
      simp e (then-then (step alive room w b) (λ v. feed alive room v s) (λ v. feed alive room v t))

  -- all bytes of a chunk at once
  pub feed-chunk : (n : ℕ) (got : List ℕ) (used : ℕ) (s : List ℕ) → n ≤ length s
      → feed alive room (chunk got used n) s ≡ feed alive room (chunk (got ++ take n s) (used + n) 0) (drop n s)
  unfolding feed
  feed-chunk zero got used s h = rw (append-nil, add-zero) refl
  feed-chunk (suc n) got used [] h = absurd (omega (arith, h))
  feed-chunk (suc n) got used (b ∷ s) h =
      let e : used + 1 + n ≡ used + suc n = omega arith in
      feed-chunk n (got ++ b ∷ []) (used + 1) s (omega (arith, h)) ∙ rw (append_assoc, e) refl

  -- a chunk of which some bytes have not come
  pub feed-cut : (n : ℕ) (got : List ℕ) (used : ℕ) (s : List ℕ) → length s < n → closed (feed alive room (chunk got used n) s) ≡ refused 4 0
  unfolding feed
  feed-cut zero got used s h = absurd (omega (arith, h))
  feed-cut (suc n) got used [] h = refl
  feed-cut (suc n) got used (b ∷ s) h = feed-cut n (got ++ b ∷ []) (used + 1) s (omega (arith, h))

  -- a header that has not come
  pub feed-few : (got : List ℕ) (used : ℕ) (s : List ℕ) → length s < 2 → closed (feed alive room (chunk got used 0) s) ≡ refused 4 0
  unfolding feed
  feed-few got used [] h = refl
  feed-few got used (a ∷ []) h = refl
  feed-few got used (a ∷ b ∷ s) h = absurd (omega (arith, h))

  -- a header
  pub feed-header : (got : List ℕ) (used a b : ℕ) (s : List ℕ)
      → feed alive room (chunk got used 0) (a ∷ b ∷ s) ≡ unless_done (opened alive room got (used + 2) (big_endian (a ∷ b ∷ []))) (λ w. feed alive room w s)
  unfolding feed
  feed-header got used a b s =
      let e : used + 1 + 1 ≡ used + 2 = omega arith in
      rw e refl

  -- the header at a place of the input
  pub feed-header-at : (got : List ℕ) (used i : ℕ) (s : List ℕ) (n : ℕ) → i + 2 ≤ length s → n ≡ big_endian (part s i 2)
      → feed alive room (chunk got used 0) (drop i s) ≡ unless_done (opened alive room got (used + 2) n) (λ w. feed alive room w (drop (i + 2) s))
  feed-header-at got used i s n h e =
      let d : i + 2 ≡ suc (suc i) = omega arith in
      rw (e, d, drop-cons s i 0 (omega arith), drop-cons s (suc i) 0 (omega arith))
      (feed-header got used (get_or s i 0) (get_or s (suc i) 0) (drop (suc (suc i)) s))
