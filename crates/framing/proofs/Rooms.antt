-- What a smaller buffer reads, a larger reads alike: only 21 depends on the room. Assumes nothing.
use mathlib.Core.Path.{◌≡◌, refl, sym, ap}
use mathlib.Core.Logic.{◌⊎◌, inl, inr}
use mathlib.Core.Bool.{Bool, true, false, cond}
use mathlib.Core.List.{List, [], ◌∷◌}
use Prim.Native.Nat.{ℕ, zero, suc, ◌+◌, ◌≤◌}
use native.Mathlib.Omega.{arith}
use lib.Dec.{eqb, ltb}
use lib.ListN.{length}
use borrow.Author.Tests.{ltb-false, le-ltb}
use Rattle.numbers.specs.BigEndian.{big_endian}
use Rattle.refusal.specs.Answer.{refused}
use Rattle.framing.specs.Feed.{Waiting, chunk, header, Progress, done, waits, start, ended, opened, step, unless_done, feed}
use Rattle.bolt.specs.Limits.{most_bytes}
use Rattle.framing.specs.Reading.{closed, frame_of}

abbrev Alike : Progress → Progress → Type 0
Alike p q = (p ≡ done (refused 21 0)) ⊎ (p ≡ q)

module _ (alive : Bool) (room larger : ℕ) (h : room ≤ larger) where
  opened-alike : (got : List ℕ) (used n : ℕ) → Alike (opened alive room got used n) (opened alive larger got used n)
  opened-alike got used n = by (eqb n 0) (ltb most_bytes (length got + n)) (ltb room (length got + n)) refl
    where
      by : (a b c : Bool) → ltb room (length got + n) ≡ c
          → Alike (cond a (done (ended alive got used)) (cond b (done (refused 6 0)) (cond c (done (refused 21 0)) (waits (chunk got used n)))))
          (cond a (done (ended alive got used)) (cond b (done (refused 6 0)) (cond (ltb larger (length got + n)) (done (refused 21 0)) (waits (chunk got used n)))))
      by true b c e = inr refl
      by false true c e = inr refl
      by false false true e = inl refl
      by false false false e =
          inr (ap (λ (t : Bool). cond t (done (refused 21 0)) (waits (chunk got used n))) (sym (le-ltb larger (length got + n) (omega (arith, ltb-false room (length got + n) e)))))

  step-alike : (w : Waiting) (b : ℕ) → Alike (step alive room w b) (step alive larger w b)
  step-alike (chunk got used (suc left)) b = inr refl
  step-alike (chunk got used zero) b = inr refl
  step-alike (header got used high) b = opened-alike got (used + 1) (big_endian (high ∷ b ∷ []))

  feed-alike : (s : List ℕ) (w : Waiting) → Alike (feed alive room w s) (feed alive larger w s)
  unfolding feed
  feed-alike [] w = inr refl
  feed-alike (b ∷ s) w = goes (step alive room w b) (step alive larger w b) (step-alike w b) (λ v. feed-alike s v)
    where
      same : (q : Progress) → ((v : Waiting) → Alike (feed alive room v s) (feed alive larger v s)) → Alike (unless_done q (λ v. feed alive room v s)) (unless_done q (λ v. feed alive larger v s))
      same (done a) go = inr refl
      same (waits v) go = go v

      goes : (p q : Progress) → Alike p q → ((v : Waiting) → Alike (feed alive room v s) (feed alive larger v s))
          → Alike (unless_done p (λ v. feed alive room v s)) (unless_done q (λ v. feed alive larger v s))
      goes p q (inl e) go = inl (ap (λ (x : Progress). unless_done x (λ v. feed alive room v s)) e)
      goes p q (inr e) go = rw e (same q go)

  -- a frame
  pub frame-alike : (s : List ℕ) → (frame_of alive room s ≡ refused 21 0) ⊎ (frame_of alive room s ≡ frame_of alive larger s)
  unfolding frame_of
  frame-alike s = closes (feed-alike s start)
    where
      closes : {p q : Progress} → Alike p q → (closed p ≡ refused 21 0) ⊎ (closed p ≡ closed q)
      closes (inl e) = inl (ap closed e)
      closes (inr e) = inr (ap closed e)
