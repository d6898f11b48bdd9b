-- What holds of what is read, if anything is: through each way of reading, and of a whole message. Assumes nothing.
use mathlib.Core.Path.{◌≡◌, subst}
use mathlib.Core.List.{List}
use Prim.Native.Nat.{ℕ, ◌≤◌}
use native.Mathlib.Omega.{arith}
use borrow.Author.Tests.{eqb-true, ltb-false}
use lib.Dec.{ltb, eqb}
use lib.ListN.{length}
use Rattle.refusal.specs.Answer.{returned}
use Rattle.markers.specs.Value.{Value}
use Rattle.markers.specs.Extents.{most_open}
use Rattle.bolt.specs.Limits.{most_bytes}
use Rattle.values.specs.Decode.{Parse, parsed, failed, and_then, mapped, value_at, whole, value_in, message_of, answer_of, decode}
use Rattle.packstream.proofs.Headers.{by-test}

-- ---- what is read, if anything is
abbrev pub Ends : {A : Type 0} → Parse A → (A → ℕ → Type 0) → Type 0
Ends (parsed a end) P = P a end
Ends (failed why place) P = Unit {0}

pub ends-then : {A B : Type 0} {P : A → ℕ → Type 0} (Q : B → ℕ → Type 0) (x : Parse A) (f : A → ℕ → Parse B) → Ends x P
    → ((a : A) (end : ℕ) → P a end → Ends (f a end) Q) → Ends (and_then x f) Q
ends-then Q (parsed a end) f h g = g a end h
ends-then Q (failed why place) f h g = tt

pub ends-mapped : {A B : Type 0} {P : A → ℕ → Type 0} (Q : B → ℕ → Type 0) (f : A → B) (x : Parse A) → Ends x P
    → ((a : A) (end : ℕ) → P a end → Q (f a) end) → Ends (mapped f x) Q
ends-mapped Q f (parsed a end) h g = g a end h
ends-mapped Q f (failed why place) h g = tt

pub ends-any : {A : Type 0} (x : Parse A) → Ends x (λ a end. Unit {0})
ends-any (parsed a end) = tt
ends-any (failed why place) = tt

-- ---- messages
-- what is all of a message
pub whole-ends : (P : Value → ℕ → Type 0) (size : ℕ) (x : Parse Value) → Ends x P → Ends (whole size x) (λ v end. P v size)
whole-ends P size (parsed v end) h =
    by-test (λ y. Ends y (λ v end. P v size)) (eqb end size) _ _ (λ e. subst (P v) (eqb-true end size e) h) (λ e. tt)
whole-ends P size (failed why place) h = tt

pub message-ends : (P : Value → ℕ → Type 0) (l : List ℕ) → (length l ≤ most_bytes → Ends (value_at l most_open 0) P) → Ends (message_of l) (λ v end. P v (length l))
unfolding message_of value_in
message-ends P l h =
    whole-ends P (length l) (value_in l most_open 0)
    (by-test (λ y. Ends y P) (ltb most_bytes (length l)) _ _ (λ e. tt) (λ e. h (ltb-false most_bytes (length l) e)))

pub decoded : (P : Value → ℕ → Type 0) (l : List ℕ) (v : Value) → (length l ≤ most_bytes → Ends (value_at l most_open 0) P) → decode l ≡ returned v → P v (length l)
decoded P l v h e = by (message_of l) (message-ends P l h) e
  where
    by : (x : Parse Value) → Ends x (λ v end. P v (length l)) → answer_of x ≡ returned v → P v (length l)
    by (parsed w end) g e = let k : w ≡ v = cc in subst (λ (x : Value). P x (length l)) k g
    by (failed why place) g e = let z : ◌≡◌ {A = ℕ} 0 1 = cc in absurd (never z)
      where
        never : ◌≡◌ {A = ℕ} 0 1 → ⊥
        never z = omega arith
