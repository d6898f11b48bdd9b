-- The laws of states and requests by their numbers. Assumes nothing.
use Prim.Native.Nat.{ℕ, zero, suc, ◌≤◌}
use native.Mathlib.Omega.{arith}
use mathlib.Core.Path.{◌≡◌, refl, sym, ap}
use mathlib.Core.Bool.{Bool, true, false, cond}
use lib.Dec.{eqb}
use borrow.Author.Tests.{eqb-true}
use lib.IntN.{ℤ}
use mir.Syntax.{w64}
use mir.Val.{SFits, to_z, of_z}
use mir.Facts.{to_z-of_z}
use Rattle.states.specs.declared.state.State.{State}
use Rattle.states.specs.declared.state.State.TheVariants.{Connected, Ready, Streaming, TxReady, TxStreaming, Failed, Interrupted, Defunct}
use Rattle.states.specs.declared.request.Request.{Request}
use Rattle.states.specs.declared.request.Request.TheVariants.{Hello, Goodbye, Reset, Run, Begin, Commit, Rollback, Discard, Pull}
use Rattle.states.specs.Requests.{kind_of, rank, is}
use Rattle.states.proofs.Bools.{by-test}
use Rattle.bolt.specs.Requests.{tag, HELLO, GOODBYE, RESET, RUN, BEGIN, COMMIT, ROLLBACK, DISCARD}
use Rattle.record.specs.Names.{state_of, request_of, is_request, count_of, qid_of}
use Rattle.record.specs.Ring.{is_reset}

-- ---- what is made of two numbers that the machine holds is made of the numbers
pub both-held : {A : Type 0} (f : ℤ → ℤ → A) (n m : ℤ) → SFits w64 n → SFits w64 m → f (to_z w64 (of_z w64 n)) (to_z w64 (of_z w64 m)) ≡ f n m
both-held f n m a b = λ j. f (to_z-of_z {w = w64} {z = n} a j) (to_z-of_z {w = w64} {z = m} b j)

-- ---- a state by its number and back
pub state-of-rank : (s : State) → state_of (rank s) ≡ s
state-of-rank Connected = refl
state-of-rank Ready = refl
state-of-rank Streaming = refl
state-of-rank TxReady = refl
state-of-rank TxStreaming = refl
state-of-rank Failed = refl
state-of-rank Interrupted = refl
state-of-rank Defunct = refl

pub rank-of-state : (n : ℕ) → n ≤ 7 → rank (state_of n) ≡ n
rank-of-state zero h = refl
rank-of-state (suc zero) h = refl
rank-of-state (suc (suc zero)) h = refl
rank-of-state (suc (suc (suc zero))) h = refl
rank-of-state (suc (suc (suc (suc zero)))) h = refl
rank-of-state (suc (suc (suc (suc (suc zero))))) h = refl
rank-of-state (suc (suc (suc (suc (suc (suc zero)))))) h = refl
rank-of-state (suc (suc (suc (suc (suc (suc (suc zero))))))) h = refl
rank-of-state (suc (suc (suc (suc (suc (suc (suc (suc n)))))))) h = absurd (omega (arith, h))

-- ---- a request by its numbers and back
pub request-of-numbers : (r : Request) → request_of (tag (kind_of r)) (count_of r) (qid_of r) ≡ r
request-of-numbers Hello = refl
request-of-numbers Goodbye = refl
request-of-numbers Reset = refl
request-of-numbers Run = refl
request-of-numbers Begin = refl
request-of-numbers Commit = refl
request-of-numbers Rollback = refl
request-of-numbers (Discard n qid) = refl
request-of-numbers (Pull n qid) = refl

pub tag_names : (r : Request) → is_request (tag (kind_of r)) ≡ true
tag_names Hello = refl
tag_names Goodbye = refl
tag_names Reset = refl
tag_names Run = refl
tag_names Begin = refl
tag_names Commit = refl
tag_names Rollback = refl
tag_names (Discard n qid) = refl
tag_names (Pull n qid) = refl

-- ---- the kind alone decides which request it is
either : (b : Bool) (x x' y y' : Request) → tag (kind_of x) ≡ tag (kind_of x') → tag (kind_of y) ≡ tag (kind_of y') → tag (kind_of (cond b x y)) ≡ tag (kind_of (cond b x' y'))
either true x x' y y' p q = p
either false x x' y y' p q = q

same : (b : Bool) (x y y' : Request) → tag (kind_of y) ≡ tag (kind_of y') → tag (kind_of (cond b x y)) ≡ tag (kind_of (cond b x y'))
same b x y y' = either b x x y y' refl

pub tags-alike : (kind : ℕ) (n m qid q : ℤ) → tag (kind_of (request_of kind n qid)) ≡ tag (kind_of (request_of kind m q))
tags-alike kind n m qid q =
    same (eqb kind (tag HELLO)) Hello _ _
    (same (eqb kind (tag GOODBYE)) Goodbye _ _
    (same (eqb kind (tag RESET)) Reset _ _
    (same (eqb kind (tag RUN)) Run _ _
    (same (eqb kind (tag BEGIN)) Begin _ _
    (same (eqb kind (tag COMMIT)) Commit _ _
    (same (eqb kind (tag ROLLBACK)) Rollback _ _
    (either (eqb kind (tag DISCARD)) (Discard n qid) (Discard m q) (Pull n qid) (Pull m q) refl refl)))))))

-- ---- it is RESET by its kind
pub reset-by-kind : (kind : ℕ) (n qid : ℤ) → is RESET (request_of kind n qid) ≡ is_reset kind
reset-by-kind kind n qid =
    by-test P (eqb kind (tag HELLO)) (other (tag HELLO))
    (λ _. by-test P (eqb kind (tag GOODBYE)) (other (tag GOODBYE))
    (λ _. by-test P (eqb kind (tag RESET)) sym
    (λ no. by-test P (eqb kind (tag RUN)) (λ _. sym no)
    (λ _. by-test P (eqb kind (tag BEGIN)) (λ _. sym no)
    (λ _. by-test P (eqb kind (tag COMMIT)) (λ _. sym no)
    (λ _. by-test P (eqb kind (tag ROLLBACK)) (λ _. sym no)
    (λ _. by-test P (eqb kind (tag DISCARD)) (λ _. sym no) (λ _. sym no))))))))
  where
    P : Request → Type 0
    P r = is RESET r ≡ is_reset kind

    other : (k : ℕ) → eqb kind k ≡ true → eqb k (tag RESET) ≡ is_reset kind
    other k e = ap is_reset (sym (eqb-true kind k e))
