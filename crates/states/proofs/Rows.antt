-- A fact of every state, or of every state and kind of request, is one computed test. The facts of the rows that the code and the rules
-- rest on. Assumes nothing.
use mathlib.Core.Path.{◌≡◌, refl, sym, ap, ◌∙◌}
use mathlib.Core.Bool.{Bool, true, false, cond, not, ◌&&◌, ◌||◌, beq}
use mathlib.Core.List.{◌++◌}
use Prim.Native.Nat.{ℕ}
use lib.Dec.{eqb}
use borrow.Author.Tests.{eqb-true}
use Rattle.states.specs.declared.state.State.{State}
use Rattle.states.specs.declared.state.State.TheVariants.{Connected, Ready, Streaming, TxReady, TxStreaming, Failed, Interrupted, Defunct}
use Rattle.states.specs.Requests.{rank, in_state, in_transaction, is_stopped, any, is_kind, fetching}
use Rattle.bolt.specs.Requests.{Kind, HELLO, GOODBYE, RESET, RUN, BEGIN, COMMIT, ROLLBACK, DISCARD, PULL}
use Rattle.states.specs.Appendix.{rows, added_rows, is_row, follow, Response, success, more, last, last-of-several, failure, ignored, new_state, hands_over, handed_somewhere, works}
use Rattle.states.specs.Table.{ignores}
use Rattle.states.specs.Stopped.{run_to_pull}
use Rattle.states.specs.Private.Outcomes.{last_state, failure_state}
use Rattle.std.proofs.lemmas.Bool.{and_parts, and_from, not-true}
use Rattle.states.proofs.Bools.{same_alike}

-- ---- every state
pub all_states : (State → Bool) → Bool
all_states f = f Connected && (f Ready && (f Streaming && (f TxReady && (f TxStreaming && (f Failed && (f Interrupted && f Defunct))))))

module _ (f : State → Bool) where
  pub each-state : all_states f ≡ true → (s : State) → f s ≡ true
  unfolding all_states
  each-state e s =
      let e₁ = (and_parts (f Connected) _ e).1 in
      let e₂ = (and_parts (f Ready) _ e₁).1 in
      let e₃ = (and_parts (f Streaming) _ e₂).1 in
      let e₄ = (and_parts (f TxReady) _ e₃).1 in
      let e₅ = (and_parts (f TxStreaming) _ e₄).1 in
      let e₆ = (and_parts (f Failed) _ e₅).1 in
      elim s as (λ (s : State). f s ≡ true) [
        | Connected ↦ (and_parts (f Connected) _ e).0
        | Ready ↦ (and_parts (f Ready) _ e₁).0
        | Streaming ↦ (and_parts (f Streaming) _ e₂).0
        | TxReady ↦ (and_parts (f TxReady) _ e₃).0
        | TxStreaming ↦ (and_parts (f TxStreaming) _ e₄).0
        | Failed ↦ (and_parts (f Failed) _ e₅).0
        | Interrupted ↦ (and_parts (f Interrupted) _ e₆).0
        | Defunct ↦ (and_parts (f Interrupted) _ e₆).1
      ]

pub all_kinds : (Kind → Bool) → Bool
all_kinds f = f HELLO && (f GOODBYE && (f RESET && (f RUN && (f BEGIN && (f COMMIT && (f ROLLBACK && (f DISCARD && f PULL)))))))

module _ (f : Kind → Bool) where
  pub each-kind : all_kinds f ≡ true → (k : Kind) → f k ≡ true
  unfolding all_kinds
  each-kind e k =
      let e₁ = (and_parts (f HELLO) _ e).1 in
      let e₂ = (and_parts (f GOODBYE) _ e₁).1 in
      let e₃ = (and_parts (f RESET) _ e₂).1 in
      let e₄ = (and_parts (f RUN) _ e₃).1 in
      let e₅ = (and_parts (f BEGIN) _ e₄).1 in
      let e₆ = (and_parts (f COMMIT) _ e₅).1 in
      let e₇ = (and_parts (f ROLLBACK) _ e₆).1 in
      elim k as (λ (k : Kind). f k ≡ true) [
        | HELLO ↦ (and_parts (f HELLO) _ e).0
        | GOODBYE ↦ (and_parts (f GOODBYE) _ e₁).0
        | RESET ↦ (and_parts (f RESET) _ e₂).0
        | RUN ↦ (and_parts (f RUN) _ e₃).0
        | BEGIN ↦ (and_parts (f BEGIN) _ e₄).0
        | COMMIT ↦ (and_parts (f COMMIT) _ e₅).0
        | ROLLBACK ↦ (and_parts (f ROLLBACK) _ e₆).0
        | DISCARD ↦ (and_parts (f DISCARD) _ e₇).0
        | PULL ↦ (and_parts (f DISCARD) _ e₇).1
      ]

-- every state and every kind
pub each : (f : State → Kind → Bool) → all_kinds (λ (k : Kind). all_states (λ (s : State). f s k)) ≡ true → (s : State) (k : Kind) → f s k ≡ true
each f e s k = each-state (λ (s : State). f s k) (each-kind (λ (k : Kind). all_states (λ (s : State). f s k)) e k) s

-- two tests that agree on all of them
agree : (f g : State → Kind → Bool) → all_kinds (λ (k : Kind). all_states (λ (s : State). beq (f s k) (g s k))) ≡ true → (s : State) (k : Kind) → f s k ≡ g s k
agree f g e s k = same_alike (f s k) (g s k) (each (λ (s : State) (k : Kind). beq (f s k) (g s k)) e s k)

-- states of one rank are one
ranked : ℕ → State
ranked n = cond (eqb n 0) Connected (cond (eqb n 1) Ready (cond (eqb n 2) Streaming (cond (eqb n 3) TxReady (cond (eqb n 4) TxStreaming (cond (eqb n 5) Failed (cond (eqb n 6) Interrupted Defunct))))))

rank-of : (s : State) → ranked (rank s) ≡ s
unfolding ranked
rank-of Connected = refl
rank-of Ready = refl
rank-of Streaming = refl
rank-of TxReady = refl
rank-of TxStreaming = refl
rank-of Failed = refl
rank-of Interrupted = refl
rank-of Defunct = refl

pub same-state : (s r : State) → in_state s r ≡ true → s ≡ r
same-state s r e = sym (rank-of s) ∙ ap ranked (eqb-true (rank s) (rank r) e) ∙ rank-of r

-- ---- the states that follow
-- two states that are the same for every state and kind that pass a test
agree-state : (h : State → Kind → Bool) (f g : State → Kind → State) → all_kinds (λ (k : Kind). all_states (λ (s : State). not (h s k) || in_state (f s k) (g s k))) ≡ true
    → (s : State) (k : Kind) → h s k ≡ true → f s k ≡ g s k
agree-state h f g e s k t =
    same-state (f s k) (g s k) (sym (ap (λ (b : Bool). not b || in_state (f s k) (g s k)) t) ∙ each (λ (s : State) (k : Kind). not (h s k) || in_state (f s k) (g s k)) e s k)

-- a state that is left as it is, whatever the kind
leaves : (f : State → Kind → State) → all_kinds (λ (k : Kind). all_states (λ (s : State). in_state (f s k) s)) ≡ true → (s : State) (k : Kind) → f s k ≡ s
leaves f e s k = same-state (f s k) s (each (λ (s : State) (k : Kind). in_state (f s k) s) e s k)

abbrev pub success_state : State → Kind → State
success_state s HELLO = Ready
success_state s GOODBYE = s
success_state s RESET = s
success_state s RUN = cond (in_state s Ready) Streaming TxStreaming
success_state s BEGIN = TxReady
success_state s COMMIT = Ready
success_state s ROLLBACK = Ready
success_state s DISCARD = s
success_state s PULL = s

pub after-success : (s : State) (k : Kind) → hands_over s k ≡ true → new_state s k success ≡ success_state s k
unfolding hands_over new_state all_states all_kinds
after-success = agree-state hands_over (λ (s : State) (k : Kind). new_state s k success) success_state refl

pub after-failure : (s : State) (k : Kind) → hands_over s k ≡ true → new_state s k failure ≡ failure_state k
unfolding hands_over new_state all_states all_kinds
after-failure = agree-state hands_over (λ (s : State) (k : Kind). new_state s k failure) (λ (s : State) (k : Kind). failure_state k) refl

pub after_more : (s : State) (k : Kind) → new_state s k more ≡ s
unfolding new_state all_states all_kinds
after_more = leaves (λ (s : State) (k : Kind). new_state s k more) refl

pub after-several : (s : State) (k : Kind) → new_state s k last-of-several ≡ s
unfolding new_state all_states all_kinds
after-several = leaves (λ (s : State) (k : Kind). new_state s k last-of-several) refl

pub after_last : (s : State) (k : Kind) → (hands_over s k && fetching k) ≡ true → new_state s k last ≡ cond (in_state s Streaming) Ready TxReady
unfolding hands_over new_state all_states all_kinds
after_last = agree-state (λ (s : State) (k : Kind). hands_over s k && fetching k) (λ (s : State) (k : Kind). new_state s k last) (λ (s : State) (k : Kind). cond (in_state s Streaming) Ready TxReady) refl

-- the last batch, with `left` streams open
pub after-batch : (s : State) (k : Kind) (left : ℕ) → hands_over s k ≡ true → fetching k ≡ true → last_state s left ≡ new_state s k (cond (eqb left 0) last last-of-several)
after-batch s k left h f = by_left (eqb left 0)
  where
    by_left : (b : Bool) → cond b (cond (in_state s Streaming) Ready TxReady) s ≡ new_state s k (cond b last last-of-several)
    by_left true = sym (after_last s k (and_from (hands_over s k) (fetching k) h f))
    by_left false = sym (after-several s k)

-- ---- what follows from a test, for every state and kind
follows : (h f : State → Kind → Bool) → all_kinds (λ (k : Kind). all_states (λ (s : State). not (h s k) || f s k)) ≡ true → (s : State) (k : Kind) → h s k ≡ true → f s k ≡ true
follows h f e s k t = sym (ap (λ (b : Bool). not b || f s k) t) ∙ each (λ (s : State) (k : Kind). not (h s k) || f s k) e s k

-- nothing is handed over in FAILED or INTERRUPTED
pub hands-running : (s : State) (k : Kind) → hands_over s k ≡ true → is_stopped s ≡ false
unfolding hands_over all_states all_kinds
hands-running s k h = not-true _ (follows hands_over (λ (s : State) (k : Kind). not (is_stopped s)) refl s k h)

-- what is handed over is no RESET
pub hands-calm : (s : State) (k : Kind) → hands_over s k ≡ true → is_kind k RESET ≡ false
unfolding hands_over all_states all_kinds
hands-calm s k h = not-true _ (follows hands_over (λ (s : State) (k : Kind). not (is_kind k RESET)) refl s k h)

-- what is handed over is work, but for HELLO in CONNECTED
pub hands-work : (s : State) (k : Kind) → hands_over s k ≡ true → in_state s Connected ≡ false → works k ≡ true
unfolding hands_over works handed_somewhere all_states all_kinds
hands-work s k h a = follows (λ (s : State) (k : Kind). hands_over s k && not (in_state s Connected)) (λ (s : State) (k : Kind). works k) refl s k (and_from (hands_over s k) (not (in_state s Connected)) h (ap not a))

-- work is no RESET
pub works-calm : (k : Kind) → works k ≡ true → is_kind k RESET ≡ false
unfolding hands_over works handed_somewhere all_states all_kinds
works-calm k h = not-true _ (follows (λ (s : State) (k : Kind). works k) (λ (s : State) (k : Kind). not (is_kind k RESET)) refl Ready k h)

-- a report does not interrupt
pub new-calm : (s : State) (k : Kind) (r : Response) → hands_over s k ≡ true → in_state (new_state s k r) Interrupted ≡ false
unfolding hands_over new_state all_states all_kinds
new-calm s k r h = not-true _ (by-response r)
  where
    by-response : (r : Response) → not (in_state (new_state s k r) Interrupted) ≡ true
    by-response success = follows hands_over (λ (s : State) (k : Kind). not (in_state (new_state s k success) Interrupted)) refl s k h
    by-response more = follows hands_over (λ (s : State) (k : Kind). not (in_state (new_state s k more) Interrupted)) refl s k h
    by-response last = follows hands_over (λ (s : State) (k : Kind). not (in_state (new_state s k last) Interrupted)) refl s k h
    by-response last-of-several = follows hands_over (λ (s : State) (k : Kind). not (in_state (new_state s k last-of-several) Interrupted)) refl s k h
    by-response failure = follows hands_over (λ (s : State) (k : Kind). not (in_state (new_state s k failure) Interrupted)) refl s k h
    by-response ignored = follows hands_over (λ (s : State) (k : Kind). not (in_state (new_state s k ignored) Interrupted)) refl s k h

-- a RUN that opens a stream leads to TX_STREAMING
pub run-streams : (s : State) (k : Kind) → hands_over s k ≡ true → (is_kind k RUN && in_transaction s) ≡ true → in_state (new_state s k success) TxStreaming ≡ true
unfolding hands_over new_state all_states all_kinds
run-streams s k h e =
    follows (λ (s : State) (k : Kind). hands_over s k && (is_kind k RUN && in_transaction s)) (λ (s : State) (k : Kind). in_state (new_state s k success) TxStreaming) refl s k
    (and_from (hands_over s k) (is_kind k RUN && in_transaction s) h e)

-- any other success that fetches nothing comes from a state with no stream open, and leads to one
pub rest-streams : (s : State) (k : Kind) → hands_over s k ≡ true → fetching k ≡ false → (is_kind k RUN && in_transaction s) ≡ false
    → (in_state (new_state s k success) TxStreaming || in_state s TxStreaming) ≡ false
unfolding hands_over new_state all_states all_kinds
rest-streams s k h f e =
    not-true _ (follows (λ (s : State) (k : Kind). hands_over s k && (not (fetching k) && not (is_kind k RUN && in_transaction s)))
    (λ (s : State) (k : Kind). not (in_state (new_state s k success) TxStreaming || in_state s TxStreaming)) refl s k
    (and_from (hands_over s k) (not (fetching k) && not (is_kind k RUN && in_transaction s)) h (and_from (not (fetching k)) (not (is_kind k RUN && in_transaction s)) (ap not f) (ap not e))))

-- ---- a stopped connection
-- work is these six
pub work-six : (k : Kind) → works k ≡ any (is_kind k) run_to_pull
unfolding all_kinds works handed_somewhere hands_over
work-six k = same_alike (works k) (any (is_kind k) run_to_pull) (each-kind (λ (k : Kind). beq (works k) (any (is_kind k) run_to_pull)) refl k)

-- the rule and the rows agree
pub ignored-listed : (s : State) (k : Kind) → ignores s k ≡ any (is_row s k ignored) (rows ++ added_rows)
unfolding all_states all_kinds ignores works handed_somewhere hands_over
ignored-listed = agree ignores (λ (s : State) (k : Kind). any (is_row s k ignored) (rows ++ added_rows)) refl

pub ignored-stays : (s : State) (k : Kind) → follow s k ignored (rows ++ added_rows) ≡ s
unfolding all_states all_kinds
ignored-stays = leaves (λ (s : State) (k : Kind). follow s k ignored (rows ++ added_rows)) refl

-- it hands nothing over, and is not closed
pub stopped-hands : (s : State) (k : Kind) → is_stopped s ≡ true → hands_over s k ≡ false
unfolding hands_over all_states all_kinds
stopped-hands s k e = not-true _ (follows (λ (s : State) (k : Kind). is_stopped s) (λ (s : State) (k : Kind). not (hands_over s k)) refl s k e)

pub stopped-live : (s : State) → is_stopped s ≡ true → in_state s Defunct ≡ false
unfolding all_states all_kinds
stopped-live s e = not-true _ (follows (λ (s : State) (k : Kind). is_stopped s) (λ (s : State) (k : Kind). not (in_state s Defunct)) refl s RUN e)
