-- What a report leaves, by the tests in its definition. Assumes nothing.
use mathlib.Core.Path.{◌≡◌, refl, sym, ap, ◌∙◌}
use mathlib.Core.Bool.{Bool, true, false, cond, ◌&&◌}
use mathlib.Core.List.{List, [], map}
use Prim.Native.Nat.{ℕ, ◌-◌, ◌<◌}
use lib.IntN.{ℤ}
use lib.ListN.{length}
use borrow.Author.Tests.{eq-eqb, ne_eqb}
use Rattle.refusal.specs.Answer.{Answer, returned, refused}
use Rattle.states.specs.declared.state.State.{State}
use Rattle.states.specs.declared.state.State.TheVariants.{Ready, Streaming, TxReady, TxStreaming, Interrupted, Defunct}
use Rattle.states.specs.declared.request.Request.{Request}
use Rattle.states.specs.declared.request.Request.TheVariants.{Hello, Goodbye, Reset, Run, Begin, Commit, Rollback, Discard, Pull}
use Rattle.states.specs.declared.answers.Outcome.{Outcome}
use Rattle.states.specs.declared.answers.Outcome.TheVariants.{Success}
use Rattle.states.specs.declared.answers.Summary.{Summary}
use Rattle.states.specs.Requests.{kind_of, in_state, in_transaction, is, fetches, asked, named}
use Rattle.bolt.specs.Requests.{HELLO, GOODBYE, RESET, RUN, BEGIN, COMMIT, ROLLBACK, DISCARD, PULL}
use Rattle.states.specs.Appendix.{new_state, hands_over}
use Rattle.states.specs.Table as T
use Rattle.states.specs.Table.{Open, Done, answered, one_more, one_less, is_full, number_after, answer, response, success_streams, streams_after, success_summary, summary_of, fitting, report_first}
use Rattle.states.specs.Rules.{may_be_in_flight}
use Rattle.states.specs.Private.Outcomes.{last_state}
use Rattle.states.proofs.Rows.{after-success, after-batch}
use Rattle.states.proofs.Standing.{may-out}
use Rattle.states.proofs.Turns.{handed-facts}
use Rattle.record.specs.declared.record.Control.{Control}
use Rattle.record.specs.declared.record.Connection.{Connection}
use Rattle.record.specs.declared.record.Queue.{Queue}
use Rattle.record.specs.Ring.{lined, place_at, request_in}
use Rattle.record.specs.Record.{joined, state_in, is_in_flight, open_in, waiting_in, kept}
use Rattle.record.specs.Calls.{After, nowhere, carried, report_of}
use Rattle.record.proofs.Keeping.{Bounds, behind_first, first_in, first-waits, behind-size, opened-own, streams-own, put-answered}
use Rattle.steps.specs.Opening.{opening_of}
use Rattle.steps.specs.declared.streams.Opened.{Opened}
use Rattle.steps.specs.Private.Changes.{Laid, answered_in}
use Rattle.steps.proofs.Calls.{goes_on}

-- ---- the streams after a success, by the request
module _ (s : State) (o : Open) where
  pub fetched : (r : Request) → fetches r ≡ true → one_less (named (asked r) o.next) o ≡ success_streams s o r
  unfolding success_streams
  fetched r e = sym (ap (λ (b : Bool). cond b (one_less (named (asked r) o.next) o) (cond (is RUN r && in_transaction s) (one_more o) (cond (is BEGIN r) (record { numbers = []; next = 0 }) o))) e)

  pub run-opens : {tx : Bool} → in_transaction s ≡ tx → cond tx (one_more o) o ≡ success_streams s o Run
  unfolding success_streams
  run-opens e = sym (ap (λ (b : Bool). cond b (one_more o) o) e)

  pub begun : record { numbers = []; next = 0 } ≡ success_streams s o Begin
  unfolding success_streams
  begun = refl

  pub others-stay : (r : Request) → (r ≡ Run → ⊥) → (r ≡ Begin → ⊥) → ((n qid : ℤ) → r ≡ Discard n qid → ⊥) → ((n qid : ℤ) → r ≡ Pull n qid → ⊥) → o ≡ success_streams s o r
  unfolding success_streams
  others-stay Hello run begin discard pull = refl
  others-stay Goodbye run begin discard pull = refl
  others-stay Reset run begin discard pull = refl
  others-stay Run run begin discard pull = absurd (run refl)
  others-stay Begin run begin discard pull = absurd (begin refl)
  others-stay Commit run begin discard pull = refl
  others-stay Rollback run begin discard pull = refl
  others-stay (Discard n qid) run begin discard pull = absurd (discard n qid refl)
  others-stay (Pull n qid) run begin discard pull = absurd (pull n qid refl)

-- ---- the state after a success, by the request
abbrev pub state_after : State → Request → ℕ → State
state_after s Hello left = Ready
state_after s Goodbye left = s
state_after s Reset left = s
state_after s Run left = cond (in_state s Ready) Streaming TxStreaming
state_after s Begin left = TxReady
state_after s Commit left = Ready
state_after s Rollback left = Ready
state_after s (Discard n qid) left = last_state s left
state_after s (Pull n qid) left = last_state s left

pub succeeds : (s : State) (r : Request) (left : ℕ) → hands_over s (kind_of r) ≡ true → new_state s (kind_of r) (response Success r left) ≡ state_after s r left
succeeds s Hello left h = after-success s HELLO h
succeeds s Goodbye left h = after-success s GOODBYE h
succeeds s Reset left h = after-success s RESET h
succeeds s Run left h = after-success s RUN h
succeeds s Begin left h = after-success s BEGIN h
succeeds s Commit left h = after-success s COMMIT h
succeeds s Rollback left h = after-success s ROLLBACK h
succeeds s (Discard n qid) left h = sym (after-batch s DISCARD left h refl)
succeeds s (Pull n qid) left h = sym (after-batch s PULL left h refl)

-- ---- the outcome of the first request, by its state and itself
module _ (k : Control) (streams : List ℕ) (queue : Queue) where
  abbrev c : Connection
  c = joined k streams queue

  abbrev opened : Open
  opened = open_in k streams

  abbrev rest : List Request
  rest = behind_first k streams queue

  -- ---- the call goes on: by whether one is in flight, and waits
  module _ (o : Outcome) {s : State} (opens : returned s ≡ opening_of c) where
    abbrev reporting : Bool → Answer Done
    reporting b = cond b (report_first o (kept c) (waiting_in k queue)) (refused 19 0)

    by-flight : {b : Bool} → is_in_flight k ≡ b → carried nowhere c (reporting b) ≡ report_of c o
    by-flight p = ap (λ (b : Bool). carried nowhere c (reporting b)) (sym p) ∙ goes_on nowhere c (reporting (is_in_flight k)) opens

    pub flies : k.in_flight ≡ 1 → carried nowhere c (report_first o (kept c) (waiting_in k queue)) ≡ report_of c o
    flies e = by-flight (eq-eqb k.in_flight 1 e)

    pub none-flies : (k.in_flight ≡ 1 → ⊥) → record { connection = c; answer = refused 19 0 } ≡ report_of c o
    none-flies e = by-flight (ne_eqb k.in_flight 1 e)

    pub none-waits : k.in_flight ≡ 1 → k.waiting ≡ 0 → record { connection = c; answer = refused 19 0 } ≡ report_of c o
    none-waits e z = ap (λ (n : ℕ). carried nowhere c (report_first o (kept c) (map request_in (lined (place_at queue) k.first n)))) (sym z) ∙ flies e

  left : (d : Bool) → cond d 0 (k.waiting - 1) ≡ length (cond d [] rest)
  left true = refl
  left false = sym (behind-size k streams queue)

  -- the record after the report, and its answer
  abbrev summed : State → Opened → List ℕ → ℕ → Summary → After
  summed s a after left m = record { connection = joined (answered_in k s a.count a.next left) after queue; answer = returned (answered m (number_after k.sent)) }

  module _ (o : Outcome) (s : State) (r : Request) (at : s ≡ state_in k) (first : r ≡ first_in k streams queue) where
    -- outside INTERRUPTED it was handed over
    pub handed : may_be_in_flight (state_in k) opened (first_in k streams queue) ≡ true → in_state s Interrupted ≡ false → (hands_over s (kind_of r) ≡ true) × ((is RUN r && is_full s opened) ≡ false)
    handed f q = handed-facts s opened r (sym (may-out s opened r q) ∙ (λ i. may_be_in_flight (at i) opened (first i)) ∙ f)

    -- where no RESET came in between
    abbrev settled_at : State → Request → Done
    settled_at s r =
        let after : Open = streams_after o s opened r in
        let new : State = new_state s (kind_of r) (response o r (length after.numbers)) in
        answer (kept c) new after (T.waiting_in new rest) (summary_of o s k.next r)

    abbrev reported_at : State → Request → Bool → Bool → Answer Done
    reported_at s r fit stopped = cond fit (returned (cond stopped (answer (kept c) s opened rest (summary_of o s k.next r)) (settled_at s r))) (refused 19 0)

    module _ (some : 0 < k.waiting) where
      first_by : {fit stopped : Bool} → fitting o r ≡ fit → in_state s Interrupted ≡ stopped → carried nowhere c (reported_at s r fit stopped) ≡ carried nowhere c (report_first o (kept c) (waiting_in k queue))
      first_by p q =
          ap (carried nowhere c)
          ((λ i. reported_at s r (sym p i) (sym q i)) ∙ (λ i. reported_at (at i) (first i) (fitting o (first i)) (in_state (at i) Interrupted))
          ∙ sym (ap (report_first o (kept c)) (first-waits k streams queue some)))

      pub unfitting : fitting o r ≡ false → record { connection = c; answer = refused 19 0 } ≡ carried nowhere c (report_first o (kept c) (waiting_in k queue))
      unfitting p = first_by p refl

      module _ (b : Bounds k) (long : length streams ≡ 8) (fit : fitting o r ≡ true) {summary : Summary} (told : summary ≡ summary_of o s k.next r) where
        pub interrupted : in_state s Interrupted ≡ true
            → summed s (record { count = k.opened; next = k.next }) streams (k.waiting - 1) summary ≡ carried nowhere c (report_first o (kept c) (waiting_in k queue))
        interrupted q =
            put-answered k streams queue b long s opened streams rest summary (sym (opened-own k streams queue b long)) refl (sym (streams-own k streams queue b long)) (left false)
            ∙ ap (λ (m : Summary). carried nowhere c (returned (answer (kept c) s opened rest m))) told
            ∙ first_by fit q

        pub settles : (new : State) (a : Opened) (after : List ℕ)
            → Laid (streams_after o s opened r) streams after a → new ≡ new_state s (kind_of r) (response o r a.count) → in_state s Interrupted ≡ false
            → summed new a after (cond (in_state new Defunct) 0 (k.waiting - 1)) summary ≡ carried nowhere c (report_first o (kept c) (waiting_in k queue))
        settles new a after l n q =
            let then : Open = streams_after o s opened r in
            let same : new ≡ new_state s (kind_of r) (response o r (length then.numbers)) = n ∙ ap (λ (m : ℕ). new_state s (kind_of r) (response o r m)) l.count in
            put-answered k streams queue b long new then after (cond (in_state new Defunct) [] rest) summary l.count l.next l.numbers (left (in_state new Defunct))
            ∙ (λ i. carried nowhere c (returned (answer (kept c) (same i) then (cond (in_state (same i) Defunct) [] rest) (told i))))
            ∙ first_by fit q
