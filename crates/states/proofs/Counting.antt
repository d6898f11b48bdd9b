-- What holds of every list of calls on the state table: the theorem `table-claim`. Beside it, that the table never refuses with 24. Assumes nothing.
use mathlib.Core.Path.{◌≡◌, refl, sym, ap, ◌∙◌, subst}
use mathlib.Core.Bool.{Bool, true, false, cond, true≢false, ◌||◌, and-eq-true_iff}
use mathlib.Core.List.{List, [], ◌∷◌, ◌++◌, append_assoc, append-nil}
use Rattle.std.specs.Prelude.{Option, None, Some}
use mathlib.Core.Logic.{⊎_elim, ◌⊎◌, inl, inr}
use Prim.Native.Nat.{ℕ, ◌+◌, ◌≤◌}
use native.Mathlib.Nat.{add-zero, zero-add}
use native.Mathlib.Numerals.{add-one}
use native.Mathlib.Omega.{arith}
use lib.Dec.{ltb, leb}
use lib.ListN.{length, take, length-append}
use lib.Seq.{drop_at}
use borrow.Author.Tests.{lt-ltb, ltb-true}
use Rattle.refusal.specs.Answer.{Answer, returned, refused}
use Rattle.states.specs.declared.state.State.{State}
use Rattle.states.specs.declared.state.State.TheVariants.{Connected, Ready, Failed, Interrupted, Defunct}
use Rattle.states.specs.declared.request.Request.{Request}
use Rattle.states.specs.declared.answers.Outcome.{Outcome}
use Rattle.states.specs.declared.answers.Failure.TheVariants.{StreamsFull, StreamUnknown}
use Rattle.states.specs.declared.answers.Summary.{Summary}
use Rattle.states.specs.declared.answers.Summary.TheVariants as S
use Rattle.states.specs.declared.turn.Turn.{Turn}
use Rattle.states.specs.declared.turn.Turn.TheVariants as U
use Rattle.states.specs.Requests.{kind_of, in_state, is_stopped, is, in_range, any}
use Rattle.bolt.specs.Requests.{RESET}
use Rattle.states.specs.Appendix.{new_state}
use Rattle.states.specs.Table as T
use Rattle.states.specs.Table.{Open, Table, Call, Said, Done, start, step, defunct, enqueued, accept, turn_of, answer, taken, take_first, response, streams_after, reported, fitting, report_first}
use Rattle.states.specs.Rules.{is_handed}
use Rattle.states.specs.Events.{said_by, left_by, run_t, events_t, accepted_by, requests, Numbered, first, nth, numbered, looked_up, rising, handed_by, handed_over, awaited, answered_by, summary_by, summaries_from, wrongly_handed}
use Rattle.states.specs.TableClaim.{Claim}
use Rattle.std.proofs.lemmas.Bool.{and_from}
use Rattle.states.proofs.Bools.{by-test}
use Rattle.states.proofs.Invariant.{Keeps, step_keeps, start-keeps, keeps-rules}
use Rattle.states.proofs.Rows.{hands-running}
use Rattle.states.proofs.Turns.{handed-facts}

-- ---- a request in flight is the first that waits, and the one handed over
pub data Awaits (t : Table) (was : Option Request) : Type 0 where
  idles : t.in_flight ≡ false → Awaits t was
  flies : (r : Request) (ws : List Request) → t.waiting ≡ r ∷ ws → was ≡ Some r → Awaits t was

awaits-first : (t : Table) (was : Option Request) → Awaits t was → t.in_flight ≡ true → was ≡ first t.waiting
awaits-first t was (idles e) f = absurd (true≢false (sym f ∙ e))
awaits-first t was (flies r ws e w) f = w ∙ ap first (sym e)

-- one more waits behind it
awaits-more : (t : Table) (was : Option Request) → Awaits t was → (s : State) (o : Open) (r : Request) → Awaits (enqueued t s o r) was
awaits-more t was (idles e) s o r = idles e
awaits-more t was (flies q ws e w) s o r = flies q (ws ++ (r ∷ [])) (ap (λ (l : List Request). l ++ (r ∷ [])) e) w

-- ---- what a step of the table does to the queue: it sends no summary, or one for the first that waits
-- what it hands over is the first
pub data Hands (t u : Table) (s : Answer Said) : Type 0 where
  none-handed : handed_by s ≡ [] → (in_state u.state Defunct ≡ false → u.in_flight ≡ t.in_flight) → Hands t u s
  first-handed : (r : Request) (ws : List Request) → t.waiting ≡ r ∷ ws → handed_by s ≡ record { number = t.sent + 1; request = Some r } ∷ [] → t.in_flight ≡ false → u.in_flight ≡ true → Hands t u s

pub data Moved (t : Table) (was : Option Request) (x : Call) (u : Table) (s : Answer Said) : Type 0 where
  quiet : summary_by (answered_by was t x) s ≡ [] → Hands t u s → Awaits u (awaited was s) → u.sent ≡ t.sent → u.accepted ≡ t.accepted + length (accepted_by x s)
      → (in_state u.state Defunct ≡ false → t.waiting ++ accepted_by x s ≡ u.waiting) → Moved t was x u s
  spoke : (r : Request) (ws : List Request) → t.waiting ≡ r ∷ ws → summary_by (answered_by was t x) s ≡ record { number = t.sent + 1; request = Some r } ∷ [] → handed_by s ≡ [] → u.in_flight ≡ false → Awaits u (awaited was s)
      → u.sent ≡ t.sent + 1 → u.accepted ≡ t.accepted → accepted_by x s ≡ [] → (in_state u.state Defunct ≡ false → u.waiting ≡ ws) → Moved t was x u s

awaits-on : (t : Table) (was : Option Request) (x : Call) (u : Table) (s : Answer Said) → Moved t was x u s → Awaits u (awaited was s)
awaits-on t was x u s (quiet z h w p q f) = w
awaits-on t was x u s (spoke r ws e z h g w p q b f) = w

module _ (t : Table) (was : Option Request) (w : Awaits t was) where
  abbrev Moves : Call → Answer Done → Type 0
  Moves x a = Moved t was x (left_by t a) (said_by a)

  abbrev Does : Call → Done → Type 0
  Does x d = Moves x (returned d)

  -- nothing is accepted and nothing waits otherwise
  still : (x : Call) (u : Table) (s : Answer Said) → summary_by (answered_by was t x) s ≡ [] → Hands t u s → Awaits u (awaited was s) → accepted_by x s ≡ [] → u.sent ≡ t.sent → u.accepted ≡ t.accepted
      → (in_state u.state Defunct ≡ false → u.waiting ≡ t.waiting) → Moved t was x u s
  still x u s z h v a p q f =
      quiet z h v p (q ∙ sym (ap (λ (l : List Request). t.accepted + length l) a ∙ add-zero t.accepted)) (λ d. ap (λ (l : List Request). t.waiting ++ l) a ∙ append-nil t.waiting ∙ sym (f d))

  none-accepted : (x : Call) (number place : ℕ) → accepted_by x (refused number place) ≡ []
  none-accepted (T.arrive r) number place = refl
  none-accepted T.take number place = refl
  none-accepted (T.report o) number place = refl
  none-accepted T.close number place = refl

  refuses : (x : Call) (number place : ℕ) → Moves x (refused number place)
  refuses x number place = still x t (refused number place) refl (none-handed refl (λ _. refl)) w (none-accepted x number place) refl refl (λ _. refl)

  -- ---- arrive
  moved-accept : (r : Request) → Does (T.arrive r) (accept t r)
  moved-accept r =
      by-test (Does (T.arrive r)) (is RESET r)
      (λ _. by-test (Does (T.arrive r)) (in_state t.state Connected) (λ _. quiet refl (none-handed refl (λ d. absurd (true≢false d))) (idles refl) refl refl (λ d. absurd (true≢false d)))
      (λ _. quiet refl (none-handed refl (λ _. refl)) (awaits-more t was w Interrupted (T.none_open t.streams) r) refl refl (λ _. refl)))
      (λ _. quiet refl (none-handed refl (λ _. refl)) (awaits-more t was w t.state t.streams r) refl refl (λ _. refl))

  moved-arrive : (r : Request) → Moves (T.arrive r) (T.arrive_t t r)
  moved-arrive r =
      by-test (Moves (T.arrive r)) (in_state t.state Defunct) (λ _. refuses (T.arrive r) 18 0)
      (λ _. by-test (Moves (T.arrive r)) (in_range r)
      (λ _. by-test (Moves (T.arrive r)) (leb 4294967295 t.accepted) (λ _. refuses (T.arrive r) 20 0)
      (λ _. by-test (Moves (T.arrive r)) (leb 32 (length t.waiting)) (λ _. refuses (T.arrive r) 17 0) (λ _. moved-accept r)))
      (λ _. refuses (T.arrive r) 27 0))

  -- ---- take and report
  module _ (r : Request) (ws : List Request) (e : t.waiting ≡ r ∷ ws) where
    -- a summary for the first
    speaks : (x : Call) (s : State) (o : Open) (b : Bool) (summary : Summary) → in_state s Defunct ≡ b → answered_by was t x ≡ Some r → ((a : Answer Said) → accepted_by x a ≡ [])
        → Does x (answer t s o (cond b [] ws) summary)
    speaks x s o b summary d h quiet-call =
        spoke r ws e (ap (λ (q : Option Request). record { number = t.sent + 1; request = q } ∷ []) h) refl refl (idles refl) refl refl (quiet-call (returned (T.answered summary (T.number_after t.sent))))
        (λ f. ap (λ (b : Bool). cond b [] ws) (sym d ∙ f))

    taking : (s : State) (o : Open) (summary : Summary) → in_state s Defunct ≡ false → Does T.take (answer t s o ws summary)
    taking s o summary d = speaks T.take s o false summary d (ap first e) (λ _. refl)

    moved-taken : (u : Turn) → t.in_flight ≡ false → in_state t.state Defunct ≡ false → Does T.take (taken u t r ws)
    moved-taken U.Closes free alive = still T.take (defunct t) (returned T.closed) refl (none-handed refl (λ d. absurd (true≢false d))) (idles refl) refl refl refl (λ d. absurd (true≢false d))
    moved-taken U.Resets free alive = by-reset (any (is RESET) ws)
      where
        by-reset : (b : Bool) → Does T.take (answer t (cond b Interrupted Ready) (T.none_open t.streams) ws S.Success)
        by-reset true = taking Interrupted (T.none_open t.streams) S.Success refl
        by-reset false = taking Ready (T.none_open t.streams) S.Success refl
    moved-taken U.Ignored free alive = taking t.state t.streams S.Ignored alive
    moved-taken U.Handed free alive =
        still T.take (taken U.Handed t r ws).table (returned (taken U.Handed t r ws).said) refl (first-handed r ws e refl free refl) (flies r ws e refl) refl refl refl (λ _. refl)
    moved-taken U.Full free alive = taking Failed (T.none_open t.streams) (S.Failure StreamsFull) refl
    moved-taken U.Unknown free alive = taking Failed (T.none_open t.streams) (S.Failure StreamUnknown) refl

    moved-reported : (o : Outcome) → t.in_flight ≡ true → in_state t.state Defunct ≡ false → Does (T.report o) (reported o t r ws)
    moved-reported o inflight alive =
        let after : Open = streams_after o t.state t.streams r in
        let new : State = new_state t.state (kind_of r) (response o r (length after.numbers)) in
        let summary : Summary = T.summary_of o t.state t.streams.next r in
        let for : was ≡ Some r = awaits-first t was w inflight ∙ ap first e in
        by-test (Does (T.report o)) (in_state t.state Interrupted) (λ _. speaks (T.report o) t.state t.streams false summary alive for (λ _. refl))
        (λ _. speaks (T.report o) new after (in_state new Defunct) summary refl for (λ _. refl))

  moved-first : t.in_flight ≡ false → in_state t.state Defunct ≡ false → (l : List Request) → t.waiting ≡ l → Does T.take (take_first t l)
  moved-first free alive [] e = still T.take t (returned T.idle) refl (none-handed refl (λ _. refl)) w refl refl refl (λ _. refl)
  moved-first free alive (r ∷ ws) e = moved-taken r ws e (turn_of t.state t.streams r) free alive

  moved-outcome : t.in_flight ≡ true → in_state t.state Defunct ≡ false → (o : Outcome) (l : List Request) → t.waiting ≡ l → Moves (T.report o) (report_first o t l)
  moved-outcome inflight alive o [] e = refuses (T.report o) 19 0
  moved-outcome inflight alive o (r ∷ ws) e = by-test (Moves (T.report o)) (fitting o r) (λ _. moved-reported r ws e o inflight alive) (λ _. refuses (T.report o) 19 0)

  pub moved : (x : Call) → Moves x (step t x)
  moved (T.arrive r) = moved-arrive r
  moved T.take =
      by-test (Moves T.take) (in_state t.state Defunct) (λ _. refuses T.take 18 0)
      (λ alive. by-test (Does T.take) t.in_flight (λ _. still T.take t (returned T.idle) refl (none-handed refl (λ _. refl)) w refl refl refl (λ _. refl))
      (λ free. moved-first free alive t.waiting refl))
  moved (T.report o) =
      by-test (Moves (T.report o)) (in_state t.state Defunct) (λ _. refuses (T.report o) 18 0)
      (λ alive. by-test (Moves (T.report o)) t.in_flight (λ inflight. moved-outcome inflight alive o t.waiting refl) (λ _. refuses (T.report o) 19 0))
  moved T.close =
      by-test (Moves T.close) (in_state t.state Defunct) (λ _. refuses T.close 18 0)
      (λ _. still T.close (defunct t) (returned T.closed) refl (none-handed refl (λ d. absurd (true≢false d))) (idles refl) refl refl refl (λ d. absurd (true≢false d)))

-- ---- no request is handed over in FAILED or INTERRUPTED
abbrev Rightly : Table → Call → Answer Done → Type 0
Rightly t x a = wrongly_handed (record { before = t; call = x; answer = said_by a }) ≡ false

module _ (t : Table) where
  rightly-taken : (r : Request) (ws : List Request) (u : Turn) → (is_handed u ≡ true → is_stopped t.state ≡ false) → Rightly t T.take (returned (taken u t r ws))
  rightly-taken r ws U.Closes f = refl
  rightly-taken r ws U.Resets f = refl
  rightly-taken r ws U.Ignored f = refl
  rightly-taken r ws U.Handed f = f refl
  rightly-taken r ws U.Full f = refl
  rightly-taken r ws U.Unknown f = refl

  rightly-first : (l : List Request) → Rightly t T.take (returned (take_first t l))
  rightly-first [] = refl
  rightly-first (r ∷ ws) = rightly-taken r ws (turn_of t.state t.streams r) (λ h. hands-running t.state (kind_of r) (handed-facts t.state t.streams r h).0)

  rightly-outcome : (o : Outcome) (l : List Request) → Rightly t (T.report o) (report_first o t l)
  rightly-outcome o [] = refl
  rightly-outcome o (r ∷ ws) =
      by-test (Rightly t (T.report o)) (fitting o r) (λ _. by-test (λ (d : Done). Rightly t (T.report o) (returned d)) (in_state t.state Interrupted) (λ _. refl) (λ _. refl)) (λ _. refl)

  rightly : (x : Call) → Rightly t x (step t x)
  rightly (T.arrive r) =
      by-test (Rightly t (T.arrive r)) (in_state t.state Defunct) (λ _. refl)
      (λ _. by-test (Rightly t (T.arrive r)) (in_range r)
      (λ _. by-test (Rightly t (T.arrive r)) (leb 4294967295 t.accepted) (λ _. refl)
      (λ _. by-test (Rightly t (T.arrive r)) (leb 32 (length t.waiting)) (λ _. refl)
      (λ _. by-test (λ (d : Done). Rightly t (T.arrive r) (returned d)) (is RESET r)
      (λ _. by-test (λ (d : Done). Rightly t (T.arrive r) (returned d)) (in_state t.state Connected) (λ _. refl) (λ _. refl)) (λ _. refl))))
      (λ _. refl))
  rightly T.take =
      by-test (Rightly t T.take) (in_state t.state Defunct) (λ _. refl)
      (λ _. by-test (λ (d : Done). Rightly t T.take (returned d)) t.in_flight (λ _. refl) (λ _. rightly-first t.waiting))
  rightly (T.report o) =
      by-test (Rightly t (T.report o)) (in_state t.state Defunct) (λ _. refl)
      (λ _. by-test (Rightly t (T.report o)) t.in_flight (λ _. rightly-outcome o t.waiting) (λ _. refl))
  rightly T.close = by-test (Rightly t T.close) (in_state t.state Defunct) (λ _. refl) (λ _. refl)

pub either : (b : Bool) → (b ≡ true) ⊎ (b ≡ false)
either true = inl refl
either false = inr refl

-- ---- in DEFUNCT every call is refused, and nothing changes
dead : (t : Table) (x : Call) → in_state t.state Defunct ≡ true → step t x ≡ refused 18 0
dead t (T.arrive r) e = rw e
dead t T.take e = rw e
dead t (T.report o) e = rw e
dead t T.close e = rw e

no-summary : (t : Table) → in_state t.state Defunct ≡ true → (was : Option Request) (calls : List Call) → summaries_from was (events_t t calls) ≡ []
no-summary t d was [] = refl
no-summary t d was (x ∷ xs) =
    ap (λ (a : Answer Done). summary_by (answered_by was t x) (said_by a) ++ summaries_from (awaited was (said_by a)) (events_t (left_by t a) xs)) (dead t x d) ∙ no-summary t d was xs

none_more : (t : Table) → in_state t.state Defunct ≡ true → (calls : List Call) → handed_over (events_t t calls) ≡ []
none_more t d [] = refl
none_more t d (x ∷ xs) = ap (λ (a : Answer Done). handed_by (said_by a) ++ handed_over (events_t (left_by t a) xs)) (dead t x d) ∙ none_more t d xs

-- ---- what is handed over has the numbers of these requests
abbrev Right : List Request → List Numbered → Type 0
Right rs hs = hs ≡ looked_up rs hs

right-none : (rs : List Request) (hs : List Numbered) → hs ≡ [] → Right rs hs
right-none rs hs e = subst (Right rs) (sym e) refl

nth-next : (before l : List Request) (r : Request) (n : ℕ) → length before ≡ n → nth (n + 1) (before ++ (r ∷ l)) ≡ Some r
nth-next before l r n e = ap (λ (k : ℕ). nth k (before ++ (r ∷ l))) (add-one n) ∙ ap first (drop_at before (r ∷ l) n e)

-- as many as were sent came before those that wait
right-more : (t u : Table) (s : Answer Said) (before l : List Request) (hs : List Numbered) → Hands t u s → length before ≡ t.sent → Right (before ++ (t.waiting ++ l)) hs
    → Right (before ++ (t.waiting ++ l)) (handed_by s ++ hs)
right-more t u s before l hs (none-handed z f) n h = subst (Right (before ++ (t.waiting ++ l))) (ap (λ (a : List Numbered). a ++ hs) (sym z)) h
right-more t u s before l hs (first-handed r ws e z f g) n h =
    let right : nth (t.sent + 1) (before ++ (t.waiting ++ l)) ≡ Some r = ap (λ (v : List Request). nth (t.sent + 1) (before ++ (v ++ l))) e ∙ nth-next before (ws ++ l) r t.sent n in
    subst (Right (before ++ (t.waiting ++ l))) (ap (λ (a : List Numbered). a ++ hs) (sym z)) (λ i. record { number = t.sent + 1; request = sym right i } ∷ h i)

-- ---- nothing is handed over twice
-- the number last handed over: that of the request in flight, or else at most that of the last that was answered
abbrev latest : Table → ℕ
latest t = cond t.in_flight (t.sent + 1) t.sent

latest-is : (t : Table) (b : Bool) → t.in_flight ≡ b → latest t ≡ cond b (t.sent + 1) t.sent
latest-is t b e = ap (λ (b : Bool). cond b (t.sent + 1) t.sent) e

latest-most : (t : Table) → latest t ≤ t.sent + 1
latest-most t = by t.in_flight
  where
    by : (b : Bool) → cond b (t.sent + 1) t.sent ≤ t.sent + 1
    by true = omega arith
    by false = omega arith

rising-from : (n m : ℕ) (hs : List Numbered) → n ≤ m → rising m hs ≡ true → rising n hs ≡ true
rising-from n m [] h e = refl
rising-from n m (x ∷ hs) h e =
    let p = (and-eq-true_iff (ltb m x.number) (rising x.number hs)).0 e in
    and_from _ _ (lt-ltb n x.number (omega (arith, ltb-true m x.number p.0))) p.1

rising_none : (n : ℕ) (hs : List Numbered) → hs ≡ [] → rising n hs ≡ true
rising_none n hs e = ap (rising n) e

rising-more : (t u : Table) (s : Answer Said) (hs : List Numbered) → u.sent ≡ t.sent → Hands t u s → (in_state u.state Defunct ≡ true → hs ≡ []) → rising (latest u) hs ≡ true
    → rising (latest t) (handed_by s ++ hs) ≡ true
rising-more t u s hs e (none-handed z f) dies h =
    ap (λ (a : List Numbered). rising (latest t) (a ++ hs)) z
    ∙ ⊎_elim (λ d. rising_none (latest t) hs (dies d))
    (λ d. subst (λ (n : ℕ). rising n hs ≡ true) (λ i. cond (f d i) (e i + 1) (e i)) h) (either (in_state u.state Defunct))
rising-more t u s hs e (first-handed r ws w z f g) dies h =
    ap (λ (a : List Numbered). rising (latest t) (a ++ hs)) z
    ∙ and_from _ _ (ap (λ (n : ℕ). ltb n (t.sent + 1)) (latest-is t false f) ∙ lt-ltb t.sent (t.sent + 1) (omega arith))
    (subst (λ (n : ℕ). rising n hs ≡ true) (latest-is u true g ∙ ap (λ (n : ℕ). n + 1) e) h)

-- ---- the whole run of the table
record Told (t : Table) (was : Option Request) (calls : List Call) : Type 0 where
  sent : (run_t t calls).sent ≡ t.sent + length (summaries_from was (events_t t calls))
  accepted : (run_t t calls).accepted ≡ t.accepted + length (requests (events_t t calls))
  kth : summaries_from was (events_t t calls) ≡ numbered (t.sent + 1) (take (length (summaries_from was (events_t t calls))) (t.waiting ++ requests (events_t t calls)))
  handed : (before : List Request) → length before ≡ t.sent → Right (before ++ (t.waiting ++ requests (events_t t calls))) (handed_over (events_t t calls))
  once : rising (latest t) (handed_over (events_t t calls)) ≡ true
  never : any wrongly_handed (events_t t calls) ≡ false

-- the k-th rule, over a call that sends nothing, and over one that sends a summary
kth-quiet : (a b : List Numbered) (k j : ℕ) (l m : List Request) → a ≡ b → j ≡ k → m ≡ l → b ≡ numbered j (take (length b) m) → a ≡ numbered k (take (length a) l)
kth-quiet a b k j l m e p q h = e ∙ h ∙ (λ i. numbered (p i) (take (length (sym e i)) (q i)))

kth-spoke : (a b : List Numbered) (k j : ℕ) (r : Request) (l m all : List Request) → a ≡ record { number = k; request = Some r } ∷ b → j ≡ k + 1 → all ≡ r ∷ l → m ≡ l → b ≡ numbered j (take (length b) m) → a ≡ numbered k (take (length a) all)
kth-spoke a b k j r l m all e p f q h =
    e ∙ (λ i. record { number = k; request = Some r } ∷ (h ∙ (λ z. numbered (p z) (take (length b) (q z)))) i) ∙ (λ i. numbered k (take (length (sym e i)) (sym f i)))

-- the same where the connection has ended
kth-ended : (a : List Numbered) (k : ℕ) (l : List Request) → a ≡ [] → a ≡ numbered k (take (length a) l)
kth-ended a k l e = e ∙ (λ i. numbered k (take (length (sym e i)) l))

kth-last : (a b : List Numbered) (k : ℕ) (r : Request) (l all : List Request) → a ≡ record { number = k; request = Some r } ∷ b → b ≡ [] → all ≡ r ∷ l → a ≡ numbered k (take (length a) all)
kth-last a b k r l all e d f =
    let whole : a ≡ record { number = k; request = Some r } ∷ [] = e ∙ ap (λ (z : List Numbered). record { number = k; request = Some r } ∷ z) d in
    whole ∙ (λ i. numbered k (take (length (sym whole i)) (sym f i)))

module _ (t : Table) (was : Option Request) (x : Call) (xs : List Call) (rest : Told (left_by t (step t x)) (awaited was (said_by (step t x))) xs) where
  abbrev u : Table
  u = left_by t (step t x)

  abbrev said : Answer Said
  said = said_by (step t x)

  abbrev rs : List Request
  rs = requests (events_t u xs)

  abbrev ss : List Numbered
  ss = summaries_from (awaited was said) (events_t u xs)

  abbrev hs : List Numbered
  hs = handed_over (events_t u xs)

  abbrev all-summaries : List Numbered
  all-summaries = summaries_from was (events_t t (x ∷ xs))

  abbrev all-requests : List Request
  all-requests = t.waiting ++ requests (events_t t (x ∷ xs))

  more : length (accepted_by x said ++ rs) ≡ length (accepted_by x said) + length rs
  more = length-append (accepted_by x said) rs

  none-wrongly : any wrongly_handed (events_t t (x ∷ xs)) ≡ false
  none-wrongly = ap (λ (b : Bool). b || any wrongly_handed (events_t u xs)) (rightly t x) ∙ rest.never

  -- the same requests as the rest has: none of them was answered, or the first was
  right-quiet : (before : List Request) → length before ≡ u.sent → all-requests ≡ u.waiting ++ rs → Right (before ++ all-requests) hs
  right-quiet before n e = subst (λ (l : List Request). Right (before ++ l) hs) (sym e) (rest.handed before n)

  right-spoke : (before : List Request) (r : Request) → length before + 1 ≡ u.sent → all-requests ≡ r ∷ (u.waiting ++ rs) → Right (before ++ all-requests) hs
  right-spoke before r n e =
      subst (λ (l : List Request). Right l hs) (append_assoc before (r ∷ []) (u.waiting ++ rs) ∙ ap (λ (l : List Request). before ++ l) (sym e))
      (rest.handed (before ++ (r ∷ [])) (length-append before (r ∷ []) ∙ n))

  told_more : Moved t was x u said → Told t was (x ∷ xs)
  told_more (quiet z h w s a f) =
      let all : all-summaries ≡ ss = ap (λ (l : List Numbered). l ++ ss) z in
      let same : in_state u.state Defunct ≡ false → u.waiting ++ rs ≡ all-requests =
      λ d. ap (λ (l : List Request). l ++ rs) (sym (f d)) ∙ append_assoc t.waiting (accepted_by x said) rs in
      record {
        sent = rest.sent ∙ ap (λ (k : ℕ). k + length ss) s ∙ ap (λ (l : List Numbered). t.sent + length l) (sym all);
        accepted = rest.accepted ∙ omega (arith, a, more);
        kth = ⊎_elim (λ d. kth-ended all-summaries (t.sent + 1) all-requests (all ∙ no-summary u d (awaited was said) xs))
            (λ d. kth-quiet all-summaries ss (t.sent + 1) (u.sent + 1) all-requests (u.waiting ++ rs) all (ap (λ (k : ℕ). k + 1) s) (same d) rest.kth)
            (either (in_state u.state Defunct));
        handed = λ before n. right-more t u said before (requests (events_t t (x ∷ xs))) hs h n
            (⊎_elim (λ d. right-none (before ++ all-requests) hs (none_more u d xs)) (λ d. right-quiet before (n ∙ sym s) (sym (same d))) (either (in_state u.state Defunct)));
        once = rising-more t u said hs s h (λ d. none_more u d xs) rest.once;
        never = none-wrongly;
      }
  told_more (spoke r ws e z h g w s a b f) =
      let all : all-summaries ≡ record { number = t.sent + 1; request = Some r } ∷ ss = ap (λ (l : List Numbered). l ++ ss) z in
      let same : requests (events_t t (x ∷ xs)) ≡ rs = ap (λ (l : List Request). l ++ rs) b in
      let whole : all-requests ≡ r ∷ (ws ++ rs) = (λ i. e i ++ same i) in
      record {
        sent = rest.sent ∙ omega (arith, s, ap length all);
        accepted = rest.accepted ∙ omega (arith, a, ap length same);
        kth = ⊎_elim (λ d. kth-last all-summaries ss (t.sent + 1) r (ws ++ rs) all-requests all (no-summary u d (awaited was said) xs) whole)
            (λ d. kth-spoke all-summaries ss (t.sent + 1) (u.sent + 1) r (ws ++ rs) (u.waiting ++ rs) all-requests all (ap (λ (k : ℕ). k + 1) s) whole
            (ap (λ (l : List Request). l ++ rs) (f d)) rest.kth)
            (either (in_state u.state Defunct));
        handed = λ before n. subst (Right (before ++ all-requests)) (ap (λ (l : List Numbered). l ++ hs) (sym h))
            (⊎_elim (λ d. right-none (before ++ all-requests) hs (none_more u d xs))
            (λ d. right-spoke before r (ap (λ (k : ℕ). k + 1) n ∙ sym s) (whole ∙ ap (λ (l : List Request). r ∷ (l ++ rs)) (sym (f d)))) (either (in_state u.state Defunct)));
        once = ap (λ (a : List Numbered). rising (latest t) (a ++ hs)) h ∙ rising-from (latest t) (latest u) hs (subst (λ (n : ℕ). latest t ≤ n) (sym (latest-is u false g ∙ s)) (latest-most t)) rest.once;
        never = none-wrongly;
      }

told : (t : Table) (was : Option Request) → Awaits t was → (calls : List Call) → Told t was calls
told t was w [] = record { sent = sym (add-zero t.sent); accepted = sym (add-zero t.accepted); kth = refl; handed = λ before n. refl; once = refl; never = refl }
told t was w (x ∷ xs) =
    let m : Moved t was x (left_by t (step t x)) (said_by (step t x)) = moved t was w x in
    told_more t was x xs (told (left_by t (step t x)) (awaited was (said_by (step t x))) (awaits-on t was x (left_by t (step t x)) (said_by (step t x)) m) xs) m

-- ---- the rules hold after every list of calls
run-keeps : (t : Table) → Keeps t → (calls : List Call) → Keeps (run_t t calls)
run-keeps t k [] = k
run-keeps t k (x ∷ xs) = run-keeps (left_by t (step t x)) (step_keeps t k x) xs

-- of every list of calls from a fresh record
pub table-claim : Claim
table-claim calls =
    let g : Told start None calls = told start None (idles refl) calls in
    let t = run_t start calls in
    let k : Keeps t = run-keeps start start-keeps calls in
    record {
      standing = keeps-rules t k;
      accepted = g.accepted ∙ zero-add _;
      sent = g.sent ∙ zero-add _;
      sum = k.sum;
      most = ⊎_elim (λ d. (k.gone d).1) (λ d. let e = k.sum d in omega arith) (either (in_state t.state Defunct));
      kth = g.kth;
      handed = g.handed [] refl;
      once = g.once;
      never = g.never;
    }

-- ---- 24
abbrev pub number : Answer Said → ℕ
number (returned s) = 0
number (refused n place) = n

-- the state table never refuses with 24
abbrev pub Not24 : Answer Done → Type 0
Not24 a = number (said_by a) ≡ 24 → ⊥

pub never24 : (t : Table) (x : Call) → Not24 (step t x)
never24 t (T.arrive r) =
    by-test Not24 (in_state t.state Defunct) (λ _ e. omega arith)
    (λ _. by-test Not24 (in_range r)
    (λ _. by-test Not24 (leb 4294967295 t.accepted) (λ _ e. omega arith) (λ _. by-test Not24 (leb 32 (length t.waiting)) (λ _ e. omega arith) (λ _ e. omega arith))) (λ _ e. omega arith))
never24 t T.take = by-test Not24 (in_state t.state Defunct) (λ _ e. omega arith) (λ _ e. omega arith)
never24 t (T.report o) =
    by-test Not24 (in_state t.state Defunct) (λ _ e. omega arith) (λ _. by-test Not24 t.in_flight (λ _. by_first t.waiting) (λ _ e. omega arith))
  where
    by_first : (l : List Request) → Not24 (report_first o t l)
    by_first [] = λ e. omega arith
    by_first (r ∷ ws) = by-test Not24 (fitting o r) (λ _ e. omega arith) (λ _ e. omega arith)
never24 t T.close = by-test Not24 (in_state t.state Defunct) (λ _ e. omega arith) (λ _ e. omega arith)
