-- The record follows the state table: a call on a record that keeps the rules answers what the table says, and the record after it keeps what
-- the table leaves. Assumes nothing.
use mathlib.Core.Path.{◌≡◌, refl, sym, ap, ◌∙◌, subst}
use mathlib.Core.Bool.{Bool, true, false, cond, not, false≢true}
use mathlib.Core.List.{List, [], ◌∷◌, ◌++◌, append-nil}
use mathlib.Core.Logic.{⊎_elim}
use Prim.Native.Nat.{ℕ, ◌+◌, ◌-◌, ◌<◌, ◌≤◌}
use native.Mathlib.Omega.{arith}
use lib.Dec.{eqb, leb}
use lib.ListN.{length, drop_of_length-le, length-set}
use lib.Seq.{length-sets}
use borrow.Author.Tests.{leb-false, le-leb, lt-ltb}
use Rattle.refusal.specs.Answer.{Answer, returned, refused}
use Rattle.bolt.specs.Requests.{tag, RESET}
use Rattle.states.specs.declared.state.State.{State}
use Rattle.states.specs.declared.state.State.TheVariants.{Connected, Ready, Streaming, TxReady, TxStreaming, Failed, Interrupted, Defunct}
use Rattle.states.specs.declared.request.Request.{Request}
use Rattle.states.specs.declared.request.Request.TheVariants.{Hello}
use Rattle.states.specs.declared.answers.Outcome.TheVariants.{Success}
use Rattle.states.specs.Requests.{kind_of, rank, in_state, is, in_range, any}
use Rattle.states.specs.Table as T
use Rattle.states.specs.Table.{Open, Table, Call, Said, Done, step, accept, enqueued, turn_of, ignores, names_open, is_full, success_streams, success_summary}
use Rattle.states.specs.Rules.{first_in_flight, rules, state_rules, counts_rule, numbers_rule, waiting_rule, may_be_in_flight}
use Rattle.states.specs.Appendix.{hands_over, works, new_state}
use Rattle.states.specs.Events.{said_by, left_by, run_t, events_t, accepted_by, first}
use Rattle.std.proofs.lemmas.Bool.{and_from, and_parts, not-true}
use Rattle.states.proofs.Bools.{by-test}
use Rattle.states.proofs.Counting.{Awaits, idles, flies, Moved, quiet, spoke, moved, either}
use Rattle.states.proofs.Invariant.{Keeps, step_keeps, keeps-rules, rules-keep}
use Rattle.states.proofs.Lists.{take-sets}
use Rattle.record.specs.declared.record.Connection.{Connection}
use Rattle.record.specs.Names.{count_of, qid_of}
use Rattle.record.specs.Ring.{Place, place, behind, place_at, unnamed}
use Rattle.record.specs.Record.{places_in, kept, bounded, named, keeps_rules, fresh}
use Rattle.record.specs.Calls.{After, put, stored, Storing, storing, nowhere, carried, called}
use Rattle.record.proofs.Keeping.{Bounds, size, stays, moves-on}
use Rattle.record.proofs.Numbers.{state-of-rank}
use Rattle.record.proofs.Places.{place-below}
use Rattle.record.proofs.Standing.{bounded-by, kept-bounds, kept-rules}
use Rattle.claims.specs.Calls.{call_of, run, events}
use Rattle.claims.specs.Claim.{Sized}
use Rattle.claims.proofs.Line.{Line, line-own, line-none, line-less, line-more}

-- ---- a record that keeps the rules, by what it has
pub record Fit (c : Connection) : Type 0 where
  pub sized : Sized c
  pub bounds : Bounds c.control
  pub names : any unnamed (places_in c.control c.queue) ≡ false
  pub keeps : Keeps (kept c)

pub fit-rules : (c : Connection) → Fit c → keeps_rules c ≡ true
unfolding keeps_rules named
fit-rules c f =
    let k = c.control in
    let b : Bounds k = f.bounds in
    and_from _ _ (bounded-by k (le-leb k.state 7 b.state) (le-leb k.in_flight 1 b.flight) (lt-ltb k.first 32 b.first) (le-leb k.waiting 32 b.few) (le-leb k.opened 8 b.fewer))
    (and_from _ _ (ap not f.names) (keeps-rules (kept c) f.keeps))

pub rules-fit : (c : Connection) → Sized c → keeps_rules c ≡ true → Fit c
unfolding keeps_rules named
rules-fit c s e = record {
  sized = s;
  bounds = kept-bounds c e;
  names = not-true _ ((and_parts (named c) _ ((and_parts (bounded c.control) _ e).1)).0);
  keeps = rules-keep (kept c) (kept-rules c e);
}

-- ---- a record that a table is put into holds it, where the places name those that wait
-- the numbers of a state and of a truth value
rank_most : (s : State) → rank s ≤ 7
rank_most Connected = omega arith
rank_most Ready = omega arith
rank_most Streaming = omega arith
rank_most TxReady = omega arith
rank_most TxStreaming = omega arith
rank_most Failed = omega arith
rank_most Interrupted = omega arith
rank_most Defunct = omega arith

flight-read : (b : Bool) → eqb (cond b 1 0) 1 ≡ b
flight-read true = refl
flight-read false = refl

flight-most : (b : Bool) → cond b 1 0 ≤ 1
flight-most true = omega arith
flight-most false = omega arith

-- the places, from where the first is after the summaries sent, name those that wait
abbrev LineOf : Connection → Table → Type 0
LineOf c t = Line (place_at c.queue) (place c.control.first (t.sent - c.control.sent)) t.waiting

module _ (c : Connection) (t : Table) (s : Sized c) (k : Keeps t) (l : LineOf c t) where
  kept_put : kept (put c t) ≡ t
  kept_put = λ i. record {
    state = state-of-rank t.state i;
    waiting = l.read i;
    in_flight = flight-read t.in_flight i;
    streams = record { numbers = take-sets c.streams t.streams.numbers (omega (arith, k.numbers.few, s.streams)) i; next = t.streams.next };
    accepted = t.accepted;
    sent = t.sent;
  }

  fit-put : Fit (put c t)
  fit-put = record {
    sized = record { streams = length-sets c.streams 0 t.streams.numbers ∙ s.streams; kinds = s.kinds; counts = s.counts; qids = s.qids };
    bounds = record {
      state = rank_most t.state;
      flight = flight-most t.in_flight;
      first = place-below c.control.first (t.sent - c.control.sent);
      few = k.long;
      fewer = k.numbers.few;
    };
    names = l.named;
    keeps = subst Keeps (sym kept_put) k;
  }

-- ---- what is carried is what the table says and leaves
record Carried (c : Connection) (a : Answer Done) (w : After) : Type 0 where
  answer : w.answer ≡ said_by a
  table : kept w.connection ≡ left_by (kept c) a
  fit : Fit w.connection

no-elements : {A : Type 0} (l : List A) → length l ≡ 0 → l ≡ []
no-elements l e = drop_of_length-le l {i = 0} (omega (arith, e))

-- a request in flight is the first that waits
awaits : (t : Table) → Keeps t → Awaits t (first t.waiting)
awaits t k = by t.in_flight t.waiting refl refl
  where
    by : (b : Bool) (l : List Request) → t.in_flight ≡ b → t.waiting ≡ l → Awaits t (first t.waiting)
    by false l e f = idles e
    by true (r ∷ ws) e f = flies r ws f (ap first f)
    by true [] e f = absurd (false≢true (sym (ap (first_in_flight t.state t.streams) f) ∙ k.first e))

module _ (c : Connection) (f : Fit c) where
  abbrev t : Table
  t = kept c

  abbrev g : ℕ → Place
  g = place_at c.queue

  abbrev at : ℕ
  at = c.control.first

  line : Line g at t.waiting
  line = line-own g at c.control.waiting f.names

  -- the first place, where no summary is sent, and where one is
  same_place : (n : ℕ) → n ≡ t.sent → at ≡ place at (n - t.sent)
  same_place n e = sym (ap (λ (m : ℕ). place at (m - t.sent)) e ∙ stays at t.sent f.bounds.first)

  next_place : (n : ℕ) → n ≡ t.sent + 1 → behind at ≡ place at (n - t.sent)
  next_place n e = sym (ap (λ (m : ℕ). place at (m - t.sent)) e ∙ moves-on at t.sent)

  -- a refusal leaves all, and else the table is put into the record
  refuses : (h : Storing) (number place : ℕ) → Carried c (refused number place) (carried h c (refused number place))
  refuses h number place = record { answer = refl; table = refl; fit = f }

  puts : (h : Storing) (d : Done) → Sized (h d.said c) → LineOf (h d.said c) d.table → Keeps d.table → Carried c (returned d) (carried h c (returned d))
  puts h d s l k = record { answer = refl; table = kept_put (h d.said c) d.table s k l; fit = fit-put (h d.said c) d.table s k l }

  -- ---- a call that accepts nothing
  -- the same wait, or the first is answered; in DEFUNCT none waits
  still : (x : Call) (u : Table) (s : Answer Said) → accepted_by x s ≡ [] → in_state u.state Defunct ≡ false → Moved t (first t.waiting) x u s → LineOf c u
  still x u s none alive (quiet z h w p q m) =
      let same : t.waiting ≡ u.waiting = sym (append-nil t.waiting) ∙ ap (λ (l : List Request). t.waiting ++ l) (sym none) ∙ m alive in
      subst (λ (n : ℕ). Line g n u.waiting) (same_place u.sent p) (subst (Line g at) same line)
  still x u s none alive (spoke r ws e z h i w p q b m) =
      subst (λ (n : ℕ). Line g n u.waiting) (next_place u.sent p) (line-less g at r u.waiting (subst (Line g at) (e ∙ ap (λ (l : List Request). r ∷ l) (sym (m alive))) line))

  line-still : (x : Call) (u : Table) (s : Answer Said) → accepted_by x s ≡ [] → Keeps u → Moved t (first t.waiting) x u s → LineOf c u
  line-still x u s none k m =
      ⊎_elim (λ d. subst (Line g (place at (u.sent - t.sent))) (sym (no-elements u.waiting (k.gone d).0)) (line-none g (place at (u.sent - t.sent)))) (λ d. still x u s none d m)
      (either (in_state u.state Defunct))

  carry-step : (x : Call) (a : Answer Done) → accepted_by x (said_by a) ≡ [] → Keeps (left_by t a) → Moved t (first t.waiting) x (left_by t a) (said_by a) → Carried c a (carried nowhere c a)
  carry-step x (returned d) none k m = puts nowhere d f.sized (line-still x d.table (returned d.said) none k m) k
  carry-step x (refused number place) none k m = refuses nowhere number place

  carry-still : (x : Call) → accepted_by x (said_by (step t x)) ≡ [] → Carried c (step t x) (carried nowhere c (step t x))
  carry-still x none = carry-step x (step t x) none (step_keeps t f.keeps x) (moved t (first t.waiting) (awaits t f.keeps) x)

  -- ---- arrive
  module _ (r : Request) where
    abbrev Arrives : Answer Done → Type 0
    Arrives a = Keeps (left_by t a) → Carried c a (carried (storing r) c a)

    -- it is queued, and its numbers stored; or it closes, and none waits
    queues : (s : State) (o : Open) → length t.waiting < 32 → Arrives (returned (record { table = enqueued t s o r; said = T.queued }))
    queues s o short k =
        let long : length t.waiting ≡ c.control.waiting = size c.control c.streams c.queue in
        let n = f.sized in
        puts (storing r) (record { table = enqueued t s o r; said = T.queued })
        (record {
          streams = n.streams;
          kinds = length-set c.queue.kinds (place at c.control.waiting) (tag (kind_of r)) ∙ n.kinds;
          counts = length-set c.queue.counts (place at c.control.waiting) (count_of r) ∙ n.counts;
          qids = length-set c.queue.qids (place at c.control.waiting) (qid_of r) ∙ n.qids;
        })
        (subst (λ (p : ℕ). Line (place_at (stored r c).queue) p (t.waiting ++ (r ∷ []))) (same_place t.sent refl)
        (line-more c.queue at c.control.waiting t.waiting r n.kinds n.counts n.qids f.bounds.first (omega (arith, short, long)) long line))
        k

    accepts : length t.waiting < 32 → Arrives (returned (accept t r))
    accepts short =
        by-test (λ (d : Done). Arrives (returned d)) (is RESET r)
        (λ _. by-test (λ (d : Done). Arrives (returned d)) (in_state t.state Connected)
        (λ _ k. puts (storing r) (record { table = T.defunct (enqueued t t.state t.streams r); said = T.closed }) f.sized (line-none g (place at (t.sent - t.sent))) k)
        (λ _. queues Interrupted (T.none_open t.streams) short))
        (λ _. queues t.state t.streams short)

    carry-arrive : Arrives (T.arrive_t t r)
    carry-arrive =
        by-test Arrives (in_state t.state Defunct) (λ _ _. refuses (storing r) 18 0)
        (λ _. by-test Arrives (in_range r)
        (λ _. by-test Arrives (leb 4294967295 t.accepted) (λ _ _. refuses (storing r) 20 0)
        (λ _. by-test Arrives (leb 32 (length t.waiting)) (λ _ _. refuses (storing r) 17 0) (λ short. accepts (leb-false 32 (length t.waiting) short))))
        (λ _ _. refuses (storing r) 27 0))

-- ---- each call is the table's, behind the check
-- where it stores
abbrev pub stores_of : Call → Storing
stores_of (T.arrive r) = storing r
stores_of T.take = nowhere
stores_of (T.report o) = nowhere
stores_of T.close = nowhere

-- a report, once a HELLO has come that no take has handed over: it is on the record as the call before it left it. The law below rests on it: a
-- wrong report shows here, at values, where the terms of any record would be compared without end
unasked : (call_of (run fresh (T.arrive Hello ∷ [])) (T.report Success)).answer ≡ refused 19 0
unfolding keeps_rules bounded named rules state_rules counts_rule numbers_rule waiting_rule may_be_in_flight turn_of hands_over ignores works names_open is_full new_state success_streams success_summary
unasked = refl

pub call-called : (c : Connection) (x : Call) → call_of c x ≡ called (stores_of x) c (step (kept c) x)
call-called c (T.arrive r) = refl
call-called c T.take = refl
call-called c (T.report o) = let own : (call_of (run fresh (T.arrive Hello ∷ [])) (T.report Success)).answer ≡ refused 19 0 = unasked in refl
call-called c T.close = refl

pub called-by : (h : Storing) (c : Connection) (a : Answer Done) {b : Bool} → keeps_rules c ≡ b → called h c a ≡ cond b (carried h c a) (record { connection = c; answer = refused 24 0 })
called-by h c a e = ap (λ (b : Bool). cond b (carried h c a) (record { connection = c; answer = refused 24 0 })) e

carry : (c : Connection) → Fit c → (x : Call) → Carried c (step (kept c) x) (carried (stores_of x) c (step (kept c) x))
carry c f (T.arrive r) = carry-arrive c f r (step_keeps (kept c) f.keeps (T.arrive r))
carry c f T.take = carry-still c f T.take refl
carry c f (T.report o) = carry-still c f (T.report o) refl
carry c f T.close = carry-still c f T.close refl

-- ---- a list of calls
pub record Follows (c : Connection) (calls : List Call) : Type 0 where
  pub seen : events c calls ≡ events_t (kept c) calls
  pub final : kept (run c calls) ≡ run_t (kept c) calls
  pub fit : Fit (run c calls)

pub follows : (c : Connection) → Fit c → (calls : List Call) → Follows c calls
follows c f [] = record { seen = refl; final = refl; fit = f }
follows c f (x ∷ xs) =
    let a = step (kept c) x in
    let w : Carried c a (call_of c x) = subst (Carried c a) (sym (call-called c x ∙ called-by (stores_of x) c a (fit-rules c f))) (carry c f x) in
    let rest : Follows (call_of c x).connection xs = follows (call_of c x).connection w.fit xs in
    record {
      seen = (λ i. record { before = kept c; call = x; answer = w.answer i } ∷ (rest.seen ∙ ap (λ (t : Table). events_t t xs) w.table) i);
      final = rest.final ∙ ap (λ (t : Table). run_t t xs) w.table;
      fit = rest.fit;
    }
