-- The standing rules, one by one, and that each step of the state table keeps them. Assumes nothing.
use mathlib.Core.Path.{◌≡◌, refl, sym, ap, ◌∙◌}
use mathlib.Core.Bool.{Bool, true, false, cond, not, true≢false, false≢true, ◌&&◌, ◌||◌, or-false, or-true}
use mathlib.Core.List.{List, [], ◌∷◌, ◌++◌}
use Prim.Native.Nat.{ℕ, suc, ◌+◌, ◌<◌, ◌≤◌}
use native.Mathlib.Omega.{arith}
use lib.Dec.{eqb, ltb, leb}
use lib.ListN.{length, length-append}
use borrow.Author.Tests.{leb-true, leb-false, ltb-true, eqb-true, le-leb, lt-ltb, eq-eqb, ne_eqb}
use Rattle.refusal.specs.Answer.{Answer}
use Rattle.states.specs.declared.state.State.{State}
use Rattle.states.specs.declared.state.State.TheVariants.{Connected, Ready, Streaming, TxReady, TxStreaming, Failed, Interrupted, Defunct}
use Rattle.states.specs.declared.request.Request.{Request}
use Rattle.states.specs.declared.answers.Outcome.{Outcome}
use Rattle.states.specs.declared.answers.Outcome.TheVariants as O
use Rattle.states.specs.declared.turn.Turn.{Turn}
use Rattle.states.specs.declared.turn.Turn.TheVariants as U
use Rattle.states.specs.Requests.{kind_of, in_state, in_transaction, is, fetches, asked, named, out_of_range, in_range, any}
use Rattle.bolt.specs.Requests.{HELLO, RESET, RUN, BEGIN}
use Rattle.states.specs.Appendix.{success, last, last-of-several, new_state, hands_over, works}
use Rattle.states.specs.Table.{Open, Table, Call, Done, arrive, take, report, close, start, step, none_open, one_more, one_less, has, without, is_full, names_open, defunct, enqueued, accept, arrive_t, ignores, turn_of, counted, taken, take_first, take_t, response, success_streams, streams_after, settled, reported, fitting, report_first, report_t, close_t}
use Rattle.states.specs.Rules.{waiting_rule, numbers_rule, distinct_below, open_rule, reset_rule, is_handed, may_be_in_flight, first_in_flight, flight_rule, counts_rule, state_rules, rules}
use Rattle.states.specs.Events.{left_by}
use Rattle.states.specs.Private.Outcomes.{last_state}
use Rattle.std.proofs.lemmas.Bool.{or_parts, and_parts, and_from, not_from_false, not-true}
use Rattle.states.proofs.Bools.{by-test, alike_same, same_alike}
use Rattle.std.proofs.lemmas.List.Folds.{list_any-append}
use Rattle.states.proofs.Rows.{hands-running, hands-calm, hands-work, works-calm, new-calm, run-streams, rest-streams, after-failure, after_more, after-batch}
use Rattle.states.proofs.Standing.{may-in, may-out}
use Rattle.states.proofs.Turns.{handed-facts, room-for-one}

-- ---- the rules as facts
-- "open numbers distinct, at most 8, below the next number, which is at most 65,536"
pub record Numbers (o : Open) : Type 0 where
  pub few : length o.numbers ≤ 8
  pub top : o.next ≤ 65536
  pub apart : distinct_below o.next o.numbers ≡ true

pub record Keeps (t : Table) : Type 0 where
  pub long : length t.waiting ≤ 32
  pub ranges : any out_of_range t.waiting ≡ false
  pub numbers : Numbers t.streams
  pub opened : in_state t.state TxStreaming ≡ leb 1 (length t.streams.numbers)
  pub told : in_state t.state Interrupted ≡ any (is RESET) t.waiting
  pub first : t.in_flight ≡ true → first_in_flight t.state t.streams t.waiting ≡ true
  pub most : t.accepted ≤ 4294967295
  pub gone : in_state t.state Defunct ≡ true → (length t.waiting ≡ 0) × (t.sent ≤ t.accepted)
  pub sum : in_state t.state Defunct ≡ false → t.accepted ≡ t.sent + length t.waiting

-- ---- the numbers
pub none-numbers : (o : Open) → Numbers o → Numbers (none_open o)
none-numbers o n = record { few = omega arith; top = n.top; apart = refl }

-- one less open
without-length : (q : ℕ) (l : List ℕ) → length (without q l) ≤ length l
without-length q [] = omega arith
without-length q (x ∷ xs) =
    let less = without-length q xs in
    by-test (λ (r : List ℕ). length r ≤ suc (length xs)) (eqb x q) (λ _. omega arith) (λ _. omega arith)

-- a number not below the next one is not open
not-open : (next : ℕ) (l : List ℕ) → distinct_below next l ≡ true → has next l ≡ false
not-open next [] e = refl
not-open next (y ∷ ys) e =
    let low : y < next = ltb-true y next ((and_parts (ltb y next) (not (has y ys) && distinct_below next ys) e).0) in
    let rest = (and_parts (not (has y ys)) (distinct_below next ys) ((and_parts (ltb y next) (not (has y ys) && distinct_below next ys) e).1)).1 in
    ap (λ (b : Bool). b || has next ys) (ne_eqb y next (λ q. omega arith)) ∙ not-open next ys rest

-- and it may be opened
one-more-apart : (next : ℕ) (l : List ℕ) → distinct_below next l ≡ true → distinct_below (next + 1) (l ++ (next ∷ [])) ≡ true
one-more-apart next [] e = ap (λ (b : Bool). b && true) (lt-ltb next (next + 1) (omega arith))
one-more-apart next (y ∷ ys) e =
    let low : y < next = ltb-true y next ((and_parts (ltb y next) (not (has y ys) && distinct_below next ys) e).0) in
    let rest = (and_parts (ltb y next) (not (has y ys) && distinct_below next ys) e).1 in
    let old : has y ys ≡ false = not-true (has y ys) ((and_parts (not (has y ys)) (distinct_below next ys) rest).0) in
    let new : has y (ys ++ (next ∷ [])) ≡ false =
    list_any-append (λ (x : ℕ). eqb x y) ys (next ∷ []) ∙ ap (λ (b : Bool). b || (eqb next y || false)) old ∙ ap (λ (b : Bool). b || false) (ne_eqb next y (λ q. omega arith)) in
    and_from (ltb y (next + 1)) (not (has y (ys ++ (next ∷ []))) && distinct_below (next + 1) (ys ++ (next ∷ []))) (lt-ltb y (next + 1) (omega arith))
    (and_from (not (has y (ys ++ (next ∷ [])))) (distinct_below (next + 1) (ys ++ (next ∷ []))) (ap not new)
    (one-more-apart next ys ((and_parts (not (has y ys)) (distinct_below next ys) rest).1)))

pub more_numbers : (o : Open) → Numbers o → length o.numbers < 8 → o.next < 65536 → Numbers (one_more o)
more_numbers o n short low = record {
  few = omega (arith, length-append o.numbers (o.next ∷ []));
  top = omega arith;
  apart = one-more-apart o.next o.numbers n.apart;
}

any-without : (f : ℕ → Bool) (q : ℕ) (l : List ℕ) → any f l ≡ false → any f (without q l) ≡ false
any-without f q [] e = refl
any-without f q (x ∷ xs) e =
    let rest = any-without f q xs ((or_parts (f x) (any f xs) e).1) in
    by-test (λ (r : List ℕ). any f r ≡ false) (eqb x q) (λ _. rest) (λ _. ap (λ (b : Bool). b || any f (without q xs)) ((or_parts (f x) (any f xs) e).0) ∙ rest)

one-less-apart : (q next : ℕ) (l : List ℕ) → distinct_below next l ≡ true → distinct_below next (without q l) ≡ true
one-less-apart q next [] e = refl
one-less-apart q next (x ∷ xs) e =
    let both = (and_parts (ltb x next) (not (has x xs) && distinct_below next xs) e).1 in
    let rest = one-less-apart q next xs ((and_parts (not (has x xs)) (distinct_below next xs) both).1) in
    let gone = any-without (λ (y : ℕ). eqb y x) q xs (not-true (has x xs) ((and_parts (not (has x xs)) (distinct_below next xs) both).0)) in
    by-test (λ (r : List ℕ). distinct_below next r ≡ true) (eqb x q) (λ _. rest)
    (λ _. and_from (ltb x next) (not (has x (without q xs)) && distinct_below next (without q xs)) ((and_parts (ltb x next) (not (has x xs) && distinct_below next xs) e).0)
    (and_from (not (has x (without q xs))) (distinct_below next (without q xs)) (ap not gone) rest))

pub less-numbers : (q : ℕ) (o : Open) → Numbers o → Numbers (one_less q o)
less-numbers q o n = let less = without-length q o.numbers in record { few = omega (arith, n.few); top = n.top; apart = one-less-apart q o.next o.numbers n.apart }

-- ---- DEFUNCT
pub defunct-keeps : (t : Table) → Numbers t.streams → t.accepted ≤ 4294967295 → t.sent ≤ t.accepted → Keeps (defunct t)
defunct-keeps t n m s = record {
  long = omega arith;
  ranges = refl;
  numbers = none-numbers t.streams n;
  opened = refl;
  told = refl;
  first = λ e. absurd (false≢true e);
  most = m;
  gone = λ _. (refl, s);
  sum = λ e. absurd (true≢false e);
}

-- ---- the one in flight
-- it is no RESET
flies-calm : (s : State) (o : Open) (r : Request) → may_be_in_flight s o r ≡ true → is RESET r ≡ false
flies-calm s o r e = by_state (in_state s Interrupted) refl
  where
    by_state : (b : Bool) → in_state s Interrupted ≡ b → is RESET r ≡ false
    by_state true i = works-calm (kind_of r) (sym (may-in s o r i) ∙ e)
    by_state false i = hands-calm s (kind_of r) (handed-facts s o r (sym (may-out s o r i) ∙ e)).0

-- outside CONNECTED it is work
flies-work : (s : State) (o : Open) (r : Request) → in_state s Connected ≡ false → may_be_in_flight s o r ≡ true → works (kind_of r) ≡ true
flies-work s o r away e = by_state (in_state s Interrupted) refl
  where
    by_state : (b : Bool) → in_state s Interrupted ≡ b → works (kind_of r) ≡ true
    by_state true i = sym (may-in s o r i) ∙ e
    by_state false i = hands-work s (kind_of r) (handed-facts s o r (sym (may-out s o r i) ∙ e)).0 away

-- ---- arrive
first_more : (s : State) (o : Open) (ws : List Request) (r : Request) → first_in_flight s o ws ≡ true → first_in_flight s o (ws ++ (r ∷ [])) ≡ true
first_more s o [] r e = absurd (false≢true e)
first_more s o (w ∷ ws) r e = e

-- the first may still be in flight where a RESET has come
first-interrupted : (s : State) (o p : Open) (ws : List Request) (r : Request) → in_state s Connected ≡ false → first_in_flight s o ws ≡ true → first_in_flight Interrupted p (ws ++ (r ∷ [])) ≡ true
first-interrupted s o p [] r away e = absurd (false≢true e)
first-interrupted s o p (w ∷ ws) r away e = may-in Interrupted p w refl ∙ flies-work s o w away e

module _ (t : Table) (k : Keeps t) (alive : in_state t.state Defunct ≡ false) (r : Request) (ok : in_range r ≡ true) (less : t.accepted < 4294967295) (short : length t.waiting < 32) where
  longer : length (t.waiting ++ (r ∷ [])) ≡ length t.waiting + 1
  longer = length-append t.waiting (r ∷ [])

  in-range : any out_of_range (t.waiting ++ (r ∷ [])) ≡ false
  in-range = list_any-append out_of_range t.waiting (r ∷ []) ∙ (λ i. k.ranges i || (not (ok i) || false))

  summed : t.accepted + 1 ≡ t.sent + length (t.waiting ++ (r ∷ []))
  summed = let e = k.sum alive in omega (arith, longer)

  told_more : {b c : Bool} → any (is RESET) t.waiting ≡ b → is RESET r ≡ c → any (is RESET) (t.waiting ++ (r ∷ [])) ≡ (b || (c || false))
  told_more p q = list_any-append (is RESET) t.waiting (r ∷ []) ∙ (λ i. p i || (q i || false))

  queued-keeps : is RESET r ≡ false → Keeps (enqueued t t.state t.streams r)
  queued-keeps other = record {
    long = omega (arith, longer);
    ranges = in-range;
    numbers = k.numbers;
    opened = k.opened;
    told = sym (told_more (sym k.told) other ∙ or-false (in_state t.state Interrupted));
    first = λ e. first_more t.state t.streams t.waiting r (k.first e);
    most = omega arith;
    gone = λ e. absurd (false≢true (sym alive ∙ e));
    sum = λ _. summed;
  }

  interrupted-keeps : is RESET r ≡ true → in_state t.state Connected ≡ false → Keeps (enqueued t Interrupted (none_open t.streams) r)
  interrupted-keeps reset away = record {
    long = omega (arith, longer);
    ranges = in-range;
    numbers = none-numbers t.streams k.numbers;
    opened = refl;
    told = sym (told_more refl reset ∙ or-true (any (is RESET) t.waiting));
    first = λ e. first-interrupted t.state t.streams (none_open t.streams) t.waiting r away (k.first e);
    most = omega arith;
    gone = λ e. absurd (false≢true e);
    sum = λ _. summed;
  }

  accept-keeps : Keeps (accept t r).table
  accept-keeps =
      by-test (λ (d : Done). Keeps d.table) (is RESET r)
      (λ reset. by-test (λ (d : Done). Keeps d.table) (in_state t.state Connected)
      (λ _. let e = k.sum alive in defunct-keeps (enqueued t t.state t.streams r) k.numbers (omega arith) (omega arith))
      (λ away. interrupted-keeps reset away))
      (λ other. queued-keeps other)

-- a step that leaves a table that keeps the rules
abbrev pub Left : Table → Answer Done → Type 0
Left t a = Keeps (left_by t a)

arrive-keeps : (t : Table) → Keeps t → (r : Request) → Left t (arrive_t t r)
arrive-keeps t k r =
    by-test (Left t) (in_state t.state Defunct) (λ _. k)
    (λ alive. by-test (Left t) (in_range r)
    (λ ok. by-test (Left t) (leb 4294967295 t.accepted) (λ _. k)
    (λ less. by-test (Left t) (leb 32 (length t.waiting)) (λ _. k)
    (λ short. accept-keeps t k alive r ok (leb-false 4294967295 t.accepted less) (leb-false 32 (length t.waiting) short))))
    (λ _. k))

-- ---- the first is answered
module _ (t : Table) (k : Keeps t) (alive : in_state t.state Defunct ≡ false) (r : Request) (ws : List Request) (e : t.waiting ≡ r ∷ ws) where
  all_told : t.accepted ≡ t.sent + suc (length ws)
  all_told = k.sum alive ∙ ap (λ (l : List Request). t.sent + length l) e

  answer_keeps : (s : State) (o : Open) (b : Bool) → in_state s Defunct ≡ b → Numbers o → in_state s TxStreaming ≡ leb 1 (length o.numbers) → in_state s Interrupted ≡ any (is RESET) (cond b [] ws)
      → Keeps (counted t s o (cond b [] ws))
  answer_keeps s o true d n opened told =
      let all : t.accepted ≡ t.sent + suc (length ws) = all_told in
      record {
        long = omega arith;
        ranges = refl;
        numbers = n;
        opened = opened;
        told = told;
        first = λ f. absurd (false≢true f);
        most = k.most;
        gone = λ _. (refl, omega arith);
        sum = λ f. absurd (true≢false (sym d ∙ f));
      }
  answer_keeps s o false d n opened told =
      let all : t.accepted ≡ t.sent + suc (length ws) = all_told in
      let long : length t.waiting ≡ suc (length ws) = ap length e in
      record {
        long = omega (arith, k.long);
        ranges = (or_parts (out_of_range r) (any out_of_range ws) (sym (ap (any out_of_range) e) ∙ k.ranges)).1;
        numbers = n;
        opened = opened;
        told = told;
        first = λ f. absurd (false≢true f);
        most = k.most;
        gone = λ f. absurd (false≢true (sym d ∙ f));
        sum = λ _. omega arith;
      }

  -- where no RESET waits, none waits behind the first
  calm : in_state t.state Interrupted ≡ false → any (is RESET) ws ≡ false
  calm f = (or_parts (is RESET r) (any (is RESET) ws) (sym (ap (any (is RESET)) e) ∙ sym k.told ∙ f)).1

  -- where the first is no RESET, those behind it say whether one waits
  behind : is RESET r ≡ false → in_state t.state Interrupted ≡ any (is RESET) ws
  behind f = k.told ∙ ap (any (is RESET)) e ∙ ap (λ (b : Bool). b || any (is RESET) ws) f

  -- a state without streams
  fails : in_state t.state Interrupted ≡ false → Keeps (counted t Failed (none_open t.streams) ws)
  fails i = answer_keeps Failed (none_open t.streams) false refl (none-numbers t.streams k.numbers) refl (sym (calm i))

  resets : (b : Bool) → any (is RESET) ws ≡ b → Keeps (counted t (cond b Interrupted Ready) (none_open t.streams) ws)
  resets true f = answer_keeps Interrupted (none_open t.streams) false refl (none-numbers t.streams k.numbers) refl (sym f)
  resets false f = answer_keeps Ready (none_open t.streams) false refl (none-numbers t.streams k.numbers) refl (sym f)

  stays : (o : Open) → is RESET r ≡ false → Numbers o → in_state t.state TxStreaming ≡ leb 1 (length o.numbers) → Keeps (counted t t.state o ws)
  stays o f n opened = answer_keeps t.state o false alive n opened (behind f)

  -- ---- take
  running : hands_over t.state (kind_of r) ≡ true → in_state t.state Interrupted ≡ false
  running h = (or_parts (in_state t.state Failed) (in_state t.state Interrupted) (hands-running t.state (kind_of r) h)).1

  hand-keeps : may_be_in_flight t.state t.streams r ≡ true → Keeps (taken U.Handed t r ws).table
  hand-keeps f = record {
    long = k.long;
    ranges = k.ranges;
    numbers = k.numbers;
    opened = k.opened;
    told = k.told;
    first = λ _. ap (first_in_flight t.state t.streams) e ∙ f;
    most = k.most;
    gone = k.gone;
    sum = k.sum;
  }

  abbrev Taking : Turn → Type 0
  Taking u = (turn_of t.state t.streams r ≡ u) → Keeps (taken u t r ws).table

  take-first-keeps : Keeps (taken (turn_of t.state t.streams r) t r ws).table
  unfolding turn_of
  take-first-keeps =
      let s = t.state in
      let o = t.streams in
      by-test Taking (is RESET r) (λ _ _. resets (any (is RESET) ws) refl)
      (λ other. by-test Taking (ignores s (kind_of r)) (λ _ _. stays o other k.numbers k.opened)
      (λ _. by-test Taking (hands_over s (kind_of r))
      (λ h. by-test Taking (is RUN r && is_full s o) (λ _ _. fails (running h))
      (λ _. by-test Taking (fetches r && not (names_open s o r)) (λ _ _. fails (running h)) (λ _ u. hand-keeps (may-out s o r (running h) ∙ ap is_handed u))))
      (λ _ _. let all : t.accepted ≡ t.sent + suc (length ws) = all_told in defunct-keeps t k.numbers k.most (omega arith))))
      refl

  -- ---- report
  module _ (f : may_be_in_flight t.state t.streams r ≡ true) (i : in_state t.state Interrupted ≡ false) where
    facts : (hands_over t.state (kind_of r) ≡ true) × ((is RUN r && is_full t.state t.streams) ≡ false)
    facts = handed-facts t.state t.streams r (sym (may-out t.state t.streams r i) ∙ f)

    -- the streams after a success
    success-numbers : Numbers (success_streams t.state t.streams r)
    unfolding success_streams
    success-numbers =
        by-test Numbers (fetches r) (λ _. less-numbers (named (asked r) t.streams.next) t.streams k.numbers)
        (λ _. by-test Numbers (is RUN r && in_transaction t.state)
        (λ run.
        let free : is_full t.state t.streams ≡ false = sym (ap (λ (b : Bool). b && is_full t.state t.streams) ((and_parts (is RUN r) (in_transaction t.state) run).0)) ∙ facts.1 in
        let room = room-for-one t.state t.streams ((and_parts (is RUN r) (in_transaction t.state) run).1) free in
        more_numbers t.streams k.numbers room.0 room.1)
        (λ _. by-test Numbers (is BEGIN r) (λ _. record { few = omega arith; top = omega arith; apart = refl }) (λ _. k.numbers)))

    -- the state after a success that fetches: TX_STREAMING exactly while a stream is left
    last-streams : (l : List ℕ) → length l ≤ length t.streams.numbers → in_state (last_state t.state (length l)) TxStreaming ≡ leb 1 (length l)
    last-streams [] less = by-test (λ (s : State). in_state s TxStreaming ≡ false) (in_state t.state Streaming) (λ _. refl) (λ _. refl)
    last-streams (x ∷ xs) less =
        let some : 1 ≤ length t.streams.numbers = omega arith in
        ap (λ (b : Bool). in_state (cond b (cond (in_state t.state Streaming) Ready TxReady) t.state) TxStreaming) (ne_eqb (suc (length xs)) 0 (λ q. omega arith))
        ∙ k.opened ∙ le-leb 1 (length t.streams.numbers) some ∙ sym (le-leb 1 (suc (length xs)) (omega arith))

    abbrev OpenedIn : Open → Type 0
    OpenedIn o = in_state (new_state t.state (kind_of r) (response O.Success r (length o.numbers))) TxStreaming ≡ leb 1 (length o.numbers)

    -- the response, where it is known whether the request fetches
    respond : {b : Bool} → fetches r ≡ b → (n : ℕ)
        → in_state (new_state t.state (kind_of r) (response O.Success r n)) TxStreaming ≡ in_state (new_state t.state (kind_of r) (cond b (cond (eqb n 0) last last-of-several) success)) TxStreaming
    respond h n = ap (λ (b : Bool). in_state (new_state t.state (kind_of r) (cond b (cond (eqb n 0) last last-of-several) success)) TxStreaming) h

    -- by what a success does to the streams
    success-opened : OpenedIn (success_streams t.state t.streams r)
    unfolding success_streams
    success-opened =
        let s = t.state in
        let o = t.streams in
        let left = without (named (asked r) o.next) o.numbers in
        by-test OpenedIn (fetches r)
        (λ h. respond h (length left) ∙ ap (λ (s : State). in_state s TxStreaming) (sym (after-batch s (kind_of r) (length left) facts.0 h)) ∙ last-streams left (without-length (named (asked r) o.next) o.numbers))
        (λ other. by-test OpenedIn (is RUN r && in_transaction s)
        (λ run.
        let long : length (o.numbers ++ (o.next ∷ [])) ≡ length o.numbers + 1 = length-append o.numbers (o.next ∷ []) in
        respond other (length (o.numbers ++ (o.next ∷ []))) ∙ run-streams s (kind_of r) facts.0 run ∙ sym (le-leb 1 (length (o.numbers ++ (o.next ∷ []))) (omega arith)))
        (λ rest.
        let none = rest-streams s (kind_of r) facts.0 other rest in
        let new = (or_parts (in_state (new_state s (kind_of r) success) TxStreaming) (in_state s TxStreaming) none).0 in
        by-test OpenedIn (is BEGIN r) (λ _. respond other 0 ∙ new)
        (λ _. respond other (length o.numbers) ∙ new ∙ sym ((or_parts (in_state (new_state s (kind_of r) success) TxStreaming) (in_state s TxStreaming) none).1) ∙ k.opened)))

    settled-numbers : (o : Outcome) → Numbers (streams_after o t.state t.streams r)
    settled-numbers O.Success = success-numbers
    settled-numbers O.More = k.numbers
    settled-numbers O.Failure = none-numbers t.streams k.numbers

    settled-opened : (o : Outcome)
        → in_state (new_state t.state (kind_of r) (response o r (length (streams_after o t.state t.streams r).numbers))) TxStreaming ≡ leb 1 (length (streams_after o t.state t.streams r).numbers)
    settled-opened O.Success = success-opened
    settled-opened O.More = ap (λ (s : State). in_state s TxStreaming) (after_more t.state (kind_of r)) ∙ k.opened
    settled-opened O.Failure =
        ap (λ (s : State). in_state s TxStreaming) (after-failure t.state (kind_of r) facts.0) ∙ by-test (λ (s : State). in_state s TxStreaming ≡ false) (is HELLO r) (λ _. refl) (λ _. refl)

    settled-keeps : (o : Outcome) → Keeps (settled o t r ws).table
    settled-keeps o =
        let after : Open = streams_after o t.state t.streams r in
        let new : State = new_state t.state (kind_of r) (response o r (length after.numbers)) in
        answer_keeps new after (in_state new Defunct) refl (settled-numbers o) (settled-opened o)
        (new-calm t.state (kind_of r) (response o r (length after.numbers)) facts.0 ∙ sym (none_told (in_state new Defunct)))
      where
        none_told : (b : Bool) → any (is RESET) (cond b [] ws) ≡ false
        none_told true = refl
        none_told false = calm i

  reported-keeps : (o : Outcome) → may_be_in_flight t.state t.streams r ≡ true → Keeps (reported o t r ws).table
  reported-keeps o f =
      by-test (λ (d : Done). Keeps d.table) (in_state t.state Interrupted)
      (λ _. stays t.streams (flies-calm t.state t.streams r f) k.numbers k.opened) (λ i. settled-keeps f i o)

-- ---- every call
taken-keeps : (t : Table) → Keeps t → in_state t.state Defunct ≡ false → (l : List Request) → t.waiting ≡ l → Keeps (take_first t l).table
taken-keeps t k alive [] e = k
taken-keeps t k alive (r ∷ ws) e = take-first-keeps t k alive r ws e

take-keeps : (t : Table) → Keeps t → Left t (take_t t)
take-keeps t k =
    by-test (Left t) (in_state t.state Defunct) (λ _. k)
    (λ alive. by-test (λ (d : Done). Keeps d.table) t.in_flight (λ _. k) (λ _. taken-keeps t k alive t.waiting refl))

first-keeps : (t : Table) → Keeps t → in_state t.state Defunct ≡ false → t.in_flight ≡ true → (o : Outcome) (l : List Request) → t.waiting ≡ l → Left t (report_first o t l)
first-keeps t k alive flight o [] e = k
first-keeps t k alive flight o (r ∷ ws) e =
    by-test (Left t) (fitting o r) (λ _. reported-keeps t k alive r ws e o (sym (ap (first_in_flight t.state t.streams) e) ∙ k.first flight)) (λ _. k)

report-keeps : (t : Table) → Keeps t → (o : Outcome) → Left t (report_t t o)
report-keeps t k o =
    by-test (Left t) (in_state t.state Defunct) (λ _. k)
    (λ alive. by-test (Left t) t.in_flight (λ flight. first-keeps t k alive flight o t.waiting refl) (λ _. k))

close-keeps : (t : Table) → Keeps t → Left t (close_t t)
close-keeps t k =
    by-test (Left t) (in_state t.state Defunct) (λ _. k)
    (λ alive. let all = k.sum alive in defunct-keeps t k.numbers k.most (omega arith))

pub step_keeps : (t : Table) → Keeps t → (c : Call) → Left t (step t c)
step_keeps t k (arrive r) = arrive-keeps t k r
step_keeps t k take = take-keeps t k
step_keeps t k (report o) = report-keeps t k o
step_keeps t k close = close-keeps t k

pub start-keeps : Keeps start
start-keeps = record {
  long = omega arith;
  ranges = refl;
  numbers = record { few = omega arith; top = omega arith; apart = refl };
  opened = refl;
  told = refl;
  first = λ e. absurd (false≢true e);
  most = omega arith;
  gone = λ e. absurd (false≢true e);
  sum = λ _. refl;
}

-- ---- the rules as the one test
pub keeps-rules : (t : Table) → Keeps t → rules t ≡ true
unfolding rules waiting_rule numbers_rule state_rules counts_rule
keeps-rules t k =
    and_from _ _ (and_from _ _ (le-leb _ _ k.long) (not_from_false _ k.ranges))
    (and_from _ _ (and_from _ _ (le-leb _ _ k.numbers.few) (and_from _ _ (le-leb _ _ k.numbers.top) k.numbers.apart))
    (and_from _ _ (alike_same _ _ k.opened)
    (and_from _ _ (alike_same _ _ k.told)
    (and_from _ _ (by-test (λ (b : Bool). b ≡ true) t.in_flight k.first (λ _. refl))
    (and_from _ _ (le-leb _ _ k.most)
    (by-test (λ (b : Bool). b ≡ true) (in_state t.state Defunct)
    (λ d. and_from _ _ (eq-eqb _ _ (k.gone d).0) (le-leb _ _ (k.gone d).1)) (λ d. eq-eqb _ _ (k.sum d))))))))

-- and back
pub rules-keep : (t : Table) → rules t ≡ true → Keeps t
unfolding rules waiting_rule numbers_rule state_rules counts_rule
rules-keep t e =
    let waiting = (and_parts (waiting_rule t.waiting) (numbers_rule t.streams && state_rules t) e).0 in
    let e₁ = (and_parts (waiting_rule t.waiting) (numbers_rule t.streams && state_rules t) e).1 in
    let numbers = (and_parts (numbers_rule t.streams) (state_rules t) e₁).0 in
    let below = (and_parts (leb (length t.streams.numbers) 8) (leb t.streams.next 65536 && distinct_below t.streams.next t.streams.numbers) numbers).1 in
    let opened = open_rule t.state t.streams in
    let reset = reset_rule t.state t.waiting in
    let flight = flight_rule t.in_flight t.state t.streams t.waiting in
    let counts = counts_rule t.state (length t.waiting) t.accepted t.sent in
    let e₂ = (and_parts (numbers_rule t.streams) (state_rules t) e₁).1 in
    let e₃ = (and_parts opened (reset && (flight && counts)) e₂).1 in
    let e₄ = (and_parts reset (flight && counts) e₃).1 in
    let e₅ = (and_parts flight counts e₄).1 in
    let sums = cond (in_state t.state Defunct) (eqb (length t.waiting) 0 && leb t.sent t.accepted) (eqb t.accepted (t.sent + length t.waiting)) in
    let e₆ = (and_parts (leb t.accepted 4294967295) sums e₅).1 in
    record {
      long = leb-true _ _ ((and_parts (leb (length t.waiting) 32) (not (any out_of_range t.waiting)) waiting).0);
      ranges = not-true _ ((and_parts (leb (length t.waiting) 32) (not (any out_of_range t.waiting)) waiting).1);
      numbers = record {
        few = leb-true _ _ ((and_parts (leb (length t.streams.numbers) 8) (leb t.streams.next 65536 && distinct_below t.streams.next t.streams.numbers) numbers).0);
        top = leb-true _ _ ((and_parts (leb t.streams.next 65536) (distinct_below t.streams.next t.streams.numbers) below).0);
        apart = (and_parts (leb t.streams.next 65536) (distinct_below t.streams.next t.streams.numbers) below).1;
      };
      opened = same_alike _ _ ((and_parts opened (reset && (flight && counts)) e₂).0);
      told = same_alike _ _ ((and_parts reset (flight && counts) e₃).0);
      first = λ f. sym (ap (λ (b : Bool). cond b (first_in_flight t.state t.streams t.waiting) true) f) ∙ (and_parts flight counts e₄).0;
      most = leb-true _ _ ((and_parts (leb t.accepted 4294967295) sums e₅).0);
      gone = λ d. let both = sym (chosen d) ∙ e₆ in
          (eqb-true _ _ ((and_parts (eqb (length t.waiting) 0) (leb t.sent t.accepted) both).0), leb-true _ _ ((and_parts (eqb (length t.waiting) 0) (leb t.sent t.accepted) both).1));
      sum = λ d. eqb-true _ _ (sym (chosen d) ∙ e₆);
    }
  where
    chosen : {b : Bool} → in_state t.state Defunct ≡ b
        → cond (in_state t.state Defunct) (eqb (length t.waiting) 0 && leb t.sent t.accepted) (eqb t.accepted (t.sent + length t.waiting))
        ≡ cond b (eqb (length t.waiting) 0 && leb t.sent t.accepted) (eqb t.accepted (t.sent + length t.waiting))
    chosen d = ap (λ (b : Bool). cond b (eqb (length t.waiting) 0 && leb t.sent t.accepted) (eqb t.accepted (t.sent + length t.waiting))) d
