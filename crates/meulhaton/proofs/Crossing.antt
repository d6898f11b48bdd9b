-- The theorem `claim` of specs/Claim. Assumes nothing.
use Prim.Native.Nat.{ℕ}
use mathlib.Core.Bool.{Bool, true, false, true≢false}
use mathlib.Core.List.{List, [], ◌∷◌, ◌++◌, map}
use mathlib.Core.Logic.{⊎_elim}
use mathlib.Core.Path.{◌≡◌, refl, sym, ap, ◌∙◌, subst}
use native.Mathlib.Omega.{arith}
use lib.Dec.{eqb}
use borrow.Author.Tests.{eq-eqb}
use Rattle.refusal.specs.Answer.{Answer, returned, refused}
use Rattle.states.specs.declared.state.State.{State}
use Rattle.states.specs.declared.state.State.TheVariants.{Connected, Ready, Streaming, TxReady, TxStreaming, Failed, Interrupted, Defunct}
use Rattle.states.specs.declared.answers.Outcome.{Outcome}
use Rattle.states.specs.declared.answers.Outcome.TheVariants as O
use Rattle.states.specs.declared.answers.Failure.TheVariants.{StreamsFull, StreamUnknown, EngineFailed}
use Rattle.states.specs.declared.answers.Summary.{Summary}
use Rattle.states.specs.declared.answers.Summary.TheVariants as S
use Rattle.states.specs.Requests.{rank, in_state}
use Rattle.states.specs.Table as T
use Rattle.states.specs.Table.{Table, Call, Said, Done, start, step, unless_defunct, arrive_t, report_t}
use Rattle.states.specs.Events.{said_by, left_by, run_t}
use Rattle.states.proofs.Bools.{by-test}
use Rattle.states.proofs.Counting.{either, number, Not24, never24}
use Rattle.record.specs.declared.record.Connection.{Connection}
use Rattle.record.specs.Names.{is_state, is_request}
use Rattle.record.specs.Record.{kept, keeps_rules, fresh}
use Rattle.record.specs.Calls.{After, Storing, carried, called}
use Rattle.record.proofs.Numbers.{state-of-rank, request-of-numbers, tag_names}
use Rattle.claims.specs.Calls.{call_of, run, events}
use Rattle.claims.proofs.Following as F
use Rattle.claims.proofs.Following.{call-called, called-by}
use Rattle.claims.proofs.Demand3 as D
use Rattle.meulhaton_calls.specs.declared.replies.Reply.{Reply}
use Rattle.meulhaton_calls.specs.Replies.{summary_image, reply_of}
use Rattle.meulhaton_calls.specs.Calls as C
use Rattle.meulhaton_calls.specs.Calls.{request_in, outcome_of, is_outcome, CallImage, step_on, ReplyAfter, in_numbers, call_on}
use Rattle.meulhaton_calls.specs.Summaries.{summary_of, is_summary}
use Rattle.meulhaton_calls.proofs.Choices.{chosen, other}
use Rattle.meulhaton.specs.Claim.{outcome_image, Faithful, Checked, run_on, replies, reply_on, left_on, replies_t, named_by, named_in, named_replies, reply_in, Crosses, Claim}

-- ---- each name and its numbers
states : (s : State) → is_state (rank s) ≡ true
states Connected = refl
states Ready = refl
states Streaming = refl
states TxReady = refl
states TxStreaming = refl
states Failed = refl
states Interrupted = refl
states Defunct = refl

outcomes : (o : Outcome) → (outcome_of (outcome_image o).number ≡ o) × (is_outcome (outcome_image o) ≡ true)
outcomes O.Success = (refl, refl)
outcomes O.More = (refl, refl)
outcomes O.Failure = (refl, refl)

summaries : (s : Summary) → (summary_of (summary_image s) ≡ s) × (is_summary (summary_image s) ≡ true)
summaries S.Ignored = (refl, refl)
summaries S.Success = (refl, refl)
summaries (S.HasMore true) = (refl, refl)
summaries (S.HasMore false) = (refl, refl)
summaries (S.Stream qid) = (refl, eq-eqb qid qid refl)
summaries (S.Failure StreamsFull) = (refl, refl)
summaries (S.Failure StreamUnknown) = (refl, refl)
summaries (S.Failure EngineFailed) = (refl, refl)

faithful : Faithful
faithful = record { state = λ s. (state-of-rank s, states s); request = λ r. (request-of-numbers r, tag_names r); outcome = outcomes; summary = summaries }

-- ---- what a call names: one of the table's calls; or none, and then it is refused, and not with 24
data Names (x : CallImage) : Type 0 where
  one : (y : Call) → named_by x ≡ y ∷ [] → C.stores_of x ≡ F.stores_of y → ((t : Table) → step_on t x ≡ step t y) → Names x
  none : (m : ℕ) → (m ≡ 24 → ⊥) → named_by x ≡ [] → ((t : Table) → step_on t x ≡ unless_defunct t (refused m 0)) → Names x

names : (x : CallImage) → Names x
names (C.arrive r) = by (is_request r.kind) refl
  where
    by : (b : Bool) → is_request r.kind ≡ b → Names (C.arrive r)
    by true e = one (T.arrive (request_in r)) (sym (chosen (is_request r.kind) (T.arrive (request_in r) ∷ []) [] e)) refl (λ t. sym (chosen (is_request r.kind) (arrive_t t (request_in r)) (unless_defunct t (refused 27 0)) e))
    by false e = none 27 (λ f. omega arith) (sym (other (is_request r.kind) (T.arrive (request_in r) ∷ []) [] e)) (λ t. sym (other (is_request r.kind) (arrive_t t (request_in r)) (unless_defunct t (refused 27 0)) e))
names C.take = one T.take refl refl (λ t. refl)
names (C.report o) = by (is_outcome o) refl
  where
    by : (b : Bool) → is_outcome o ≡ b → Names (C.report o)
    by true e = one (T.report (outcome_of o.number)) (sym (chosen (is_outcome o) (T.report (outcome_of o.number) ∷ []) [] e)) refl (λ t. sym (chosen (is_outcome o) (report_t t (outcome_of o.number)) (unless_defunct t (refused 19 0)) e))
    by false e = none 19 (λ f. omega arith) (sym (other (is_outcome o) (T.report (outcome_of o.number) ∷ []) [] e)) (λ t. sym (other (is_outcome o) (report_t t (outcome_of o.number)) (unless_defunct t (refused 19 0)) e))
names C.close = one T.close refl refl (λ t. refl)

not24 : (t : Table) (x : CallImage) → Names x → Not24 (step_on t x)
not24 t x (one y n h s) = subst Not24 (sym (s t)) (never24 t y)
not24 t x (none m isnt n s) = subst Not24 (sym (s t)) (by-test Not24 (in_state t.state Defunct) (λ _ e. omega arith) (λ _. isnt))

-- ---- what is carried, and its reply
carried-answer : (h : Storing) (c : Connection) (a : Answer Done) → (carried h c a).answer ≡ said_by a
carried-answer h c (returned d) = refl
carried-answer h c (refused number place) = refl

reply-number : (a : Answer Said) → (reply_of a).refusal ≡ number a
reply-number (refused n place) = refl
reply-number (returned T.queued) = refl
reply-number (returned T.closed) = refl
reply-number (returned T.idle) = refl
reply-number (returned (T.handed r n)) = refl
reply-number (returned (T.answered summary n)) = refl

-- a call that is refused leaves the record
stays : (h : Storing) (c : Connection) (a : Answer Done) → eqb (reply_of (carried h c a).answer).refusal 0 ≡ false → (carried h c a).connection ≡ c
stays h c (refused number place) e = refl
stays h c (returned d) e = absurd (true≢false (sym (ap (λ (n : ℕ). eqb n 0) (reply-number (returned d.said))) ∙ e))

module _ (c : Connection) (x : CallImage) where
  abbrev says : Answer Done
  says = step_on (kept c) x

  call-is : {w : After} → called (C.stores_of x) c says ≡ w → call_on c x ≡ in_numbers w
  unfolding call_on
  call-is e = ap in_numbers e

  breaks : keeps_rules c ≡ false → call_on c x ≡ record { connection = c; reply = reply_of (refused 24 0) }
  breaks e = call-is (called-by (C.stores_of x) c says e)

  stands : keeps_rules c ≡ true → call_on c x ≡ in_numbers (carried (C.stores_of x) c says)
  stands e = call-is (called-by (C.stores_of x) c says e)

  -- ---- 24
  checked : Checked c x
  checked = record {
    broken = breaks;
    only = λ e. ⊎_elim
        (λ k. absurd (not24 (kept c) x (names x)
        (sym (ap number (carried-answer (C.stores_of x) c says)) ∙ sym (reply-number (carried (C.stores_of x) c says).answer) ∙ ap (λ (w : ReplyAfter). w.reply.refusal) (sym (stands k)) ∙ e)))
        (λ k. k) (either (keeps_rules c));
    unchanged = λ e. ⊎_elim
        (λ k. ap (λ (w : ReplyAfter). w.connection) (stands k) ∙ stays (C.stores_of x) c says (ap (λ (w : ReplyAfter). eqb w.reply.refusal 0) (sym (stands k)) ∙ e))
        (λ k. ap (λ (w : ReplyAfter). w.connection) (breaks k)) (either (keeps_rules c));
  }

-- a call that names none leaves what it found
none-carried : (h : Storing) (c : Connection) (number : ℕ) → (carried h c (unless_defunct (kept c) (refused number 0))).connection ≡ c
none-carried h c number = by-test (λ (a : Answer Done). (carried h c a).connection ≡ c) (in_state (kept c).state Defunct) (λ _. refl) (λ _. refl)

none_left : (t : Table) (number : ℕ) → left_by t (unless_defunct t (refused number 0)) ≡ t
none_left t number = by-test (λ (a : Answer Done). left_by t a ≡ t) (in_state t.state Defunct) (λ _. refl) (λ _. refl)

-- ---- a list of calls, on a record that keeps the rules and what a table keeps, whatever is called
record Follows (c : Connection) (t : Table) (xs : List Call) : Type 0 where
  rules : keeps_rules (run c xs) ≡ true
  table : kept (run c xs) ≡ run_t t xs

module _ (c : Connection) (t : Table) (h : (xs : List Call) → Follows c t xs) (x : CallImage) where
  abbrev w : After
  w = carried (C.stores_of x) c (says c x)

  abbrev d : Connection
  d = w.connection

  gives : call_on c x ≡ record { connection = d; reply = reply_on (kept c) x }
  gives = stands c x (h []).rules ∙ (λ j. record { connection = d; reply = reply_of (carried-answer (C.stores_of x) c (says c x) j) })

  -- the record and the table after the call; what it names leads to that record, and is answered as it is
  record Next : Type 0 where
    follows : (xs : List Call) → Follows d (left_on t x) xs
    ran : (xs : List Call) → run d xs ≡ run c (named_by x ++ xs)
    heard : (xs : List Call) → map (λ (y : Call). reply_on (kept c) x) (named_by x) ++ map reply_in (events d xs) ≡ map reply_in (events c (named_by x ++ xs))

  next : Names x → Next
  next (one y n f s) =
      let e : w ≡ call_of c y = (λ j. carried (f j) c (s (kept c) j)) ∙ sym (call-called c y ∙ called-by (F.stores_of y) c (step (kept c) y) (h []).rules) in
      let p : d ≡ (call_of c y).connection = ap (λ (a : After). a.connection) e in
      let q : left_on t x ≡ left_by t (step t y) = ap (left_by t) (s t) in
      let r : reply_on (kept c) x ≡ reply_of (call_of c y).answer = ap reply_of (sym (carried-answer (C.stores_of x) c (says c x)) ∙ ap (λ (a : After). a.answer) e) in
      record {
        follows = λ xs. record {
          rules = ap (λ (e : Connection). keeps_rules (run e xs)) p ∙ (h (y ∷ xs)).rules;
          table = ap (λ (e : Connection). kept (run e xs)) p ∙ (h (y ∷ xs)).table ∙ ap (λ (u : Table). run_t u xs) (sym q);
        };
        ran = λ xs. ap (λ (e : Connection). run e xs) p ∙ ap (λ (l : List Call). run c (l ++ xs)) (sym n);
        heard = λ xs. (λ j. map (λ (z : Call). r j) (n j) ++ map reply_in (events (p j) xs)) ∙ ap (λ (l : List Call). map reply_in (events c (l ++ xs))) (sym n);
      }
  next (none m isnt n s) =
      let p : d ≡ c = ap (λ (a : Answer Done). (carried (C.stores_of x) c a).connection) (s (kept c)) ∙ none-carried (C.stores_of x) c m in
      let q : left_on t x ≡ t = ap (left_by t) (s t) ∙ none_left t m in
      record {
        follows = λ xs. record {
          rules = ap (λ (e : Connection). keeps_rules (run e xs)) p ∙ (h xs).rules;
          table = ap (λ (e : Connection). kept (run e xs)) p ∙ (h xs).table ∙ ap (λ (u : Table). run_t u xs) (sym q);
        };
        ran = λ xs. ap (λ (e : Connection). run e xs) p ∙ ap (λ (l : List Call). run c (l ++ xs)) (sym n);
        heard = λ xs. (λ j. map (λ (z : Call). reply_on (kept c) x) (n j) ++ map reply_in (events (p j) xs)) ∙ ap (λ (l : List Call). map reply_in (events c (l ++ xs))) (sym n);
      }

record Along (c : Connection) (t : Table) (xs : List CallImage) : Type 0 where
  answers : replies c xs ≡ replies_t t xs
  named : named_replies c xs ≡ map reply_in (events c (named_in xs))
  leaves : run_on c xs ≡ run c (named_in xs)

along : (c : Connection) (t : Table) → ((xs : List Call) → Follows c t xs) → (xs : List CallImage) → Along c t xs
along c t h [] = record { answers = refl; named = refl; leaves = refl }
along c t h (x ∷ xs) =
    let e = gives c t h x in
    let n = next c t h x (names x) in
    let rest = along (d c t h x) (left_on t x) n.follows xs in
    record {
      answers = ap (λ (w : ReplyAfter). w.reply ∷ replies w.connection xs) e ∙ (λ j. reply_on ((h []).table j) x ∷ rest.answers j);
      named = ap (λ (w : ReplyAfter). map (λ (y : Call). w.reply) (named_by x) ++ named_replies w.connection xs) e
          ∙ ap (λ (l : List Reply). map (λ (y : Call). reply_on (kept c) x) (named_by x) ++ l) rest.named
          ∙ n.heard (named_in xs);
      leaves = ap (λ (w : ReplyAfter). run_on w.connection xs) e ∙ rest.leaves ∙ n.ran (named_in xs);
    }

crosses : (calls : List CallImage) → Crosses calls
crosses calls =
    let a = along fresh start (λ xs. record { rules = ((D.claim).demand3 xs).standing; table = ((D.claim).demand3 xs).keeps }) calls in
    record { answers = a.answers; named = a.named; leaves = a.leaves }

-- the claim
pub claim : Claim
claim = record { faithful = faithful; checked = checked; crosses = crosses }
