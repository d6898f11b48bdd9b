-- The turns never run out before the connection is idle or closed: the theorem `idles`. Each turn that goes on leaves fewer requests
-- waiting. Assumes nothing.
use mathlib.Core.Path.{◌≡◌, refl, sym, ap, ◌∙◌, subst}
use mathlib.Core.Bool.{true, false}
use mathlib.Core.List.{List, [], ◌∷◌}
use mathlib.Core.Logic.{⊎_elim}
use Prim.Native.Nat.{ℕ, zero, suc, ◌<◌, ◌≤◌}
use native.Mathlib.Omega.{arith}
use lib.Dec.{leb}
use lib.ListN.{length}
use Rattle.refusal.specs.Answer.{Answer, returned, refused}
use Rattle.states.specs.declared.state.State.TheVariants.{Connected, Interrupted, Defunct}
use Rattle.states.specs.declared.request.Request.{Request}
use Rattle.states.specs.declared.answers.Outcome.TheVariants.{Success}
use Rattle.states.specs.declared.turn.Turn.{Turn}
use Rattle.states.specs.declared.turn.Turn.TheVariants as U
use Rattle.states.specs.Requests.{kind_of, in_state, is, in_range}
use Rattle.bolt.specs.Requests.{RESET}
use Rattle.states.specs.Appendix.{new_state}
use Rattle.states.specs.Table as T
use Rattle.states.specs.Table.{Table, Call, Said, Done, step, take_t, take_first, taken, turn_of as turn_in, arrive_t, report_t, report_first, reported, streams_after, response}
use Rattle.states.specs.Events.{Event, said_by, left_by}
use Rattle.states.proofs.Bools.{by-test}
use Rattle.states.proofs.Counting.{either}
use Rattle.record.specs.declared.record.Connection.{Connection}
use Rattle.record.specs.Record.{kept, keeps_rules}
use Rattle.record.specs.Calls.{After, arrive_of, take_of, report_of}
use Rattle.claims.specs.Calls.{call_of}
use Rattle.claims.specs.Claim.{Sized}
use Rattle.claims.proofs.Demand3.{claim}
use Rattle.claims.proofs.Following.{Fit, rules-fit, follows}
use Rattle.serving.specs.Serving.{End, idle, Serving, succeeding, turn_of, following, serving, turns, served}
use Rattle.serving.specs.Idle.{Claim}

-- ---- the table
-- what a take says, and what it leaves: idle changes nothing, what is handed over still waits, and a summary is for the first
abbrev Took : Table → Said → Table → Type 0
Took t T.queued u = ⊥
Took t T.closed u = Unit {0}
Took t T.idle u = u ≡ t
Took t (T.handed r n) u = length u.waiting ≤ length t.waiting
Took t (T.answered s n) u = length u.waiting < length t.waiting

abbrev Takes : Table → Answer Done → Type 0
Takes t (returned d) = Took t d.said d.table
Takes t (refused number place) = Unit {0}

taken-shorter : (t : Table) (r : Request) (ws : List Request) → t.waiting ≡ r ∷ ws → (u : Turn) → Took t (taken u t r ws).said (taken u t r ws).table
taken-shorter t r ws e U.Closes = tt
taken-shorter t r ws e U.Resets = omega (arith, ap length e)
taken-shorter t r ws e U.Ignored = omega (arith, ap length e)
taken-shorter t r ws e U.Handed = omega arith
taken-shorter t r ws e U.Full = omega (arith, ap length e)
taken-shorter t r ws e U.Unknown = omega (arith, ap length e)

first-shorter : (t : Table) (l : List Request) → t.waiting ≡ l → Took t (take_first t l).said (take_first t l).table
first-shorter t [] e = refl
first-shorter t (r ∷ ws) e = taken-shorter t r ws e (turn_in t.state t.streams r)

takes : (t : Table) → Takes t (take_t t)
takes t =
    by-test (Takes t) (in_state t.state Defunct) (λ _. tt)
    (λ _. by-test (λ (d : Done). Took t d.said d.table) t.in_flight (λ _. refl) (λ _. first-shorter t t.waiting refl))

-- a report that is not refused is a summary
abbrev Answered : Table → Said → Table → Type 0
Answered t T.queued u = ⊥
Answered t T.closed u = ⊥
Answered t T.idle u = ⊥
Answered t (T.handed r n) u = ⊥
Answered t (T.answered s n) u = length u.waiting < length t.waiting

abbrev Reports : Table → Answer Done → Type 0
Reports t (returned d) = Answered t d.said d.table
Reports t (refused number place) = Unit {0}

reported-shorter : (t : Table) (r : Request) (ws : List Request) → t.waiting ≡ r ∷ ws → Answered t (reported Success t r ws).said (reported Success t r ws).table
reported-shorter t r ws e =
    by-test (λ (d : Done). Answered t d.said d.table) (in_state t.state Interrupted) (λ _. omega (arith, ap length e))
    (λ _. by-test (λ (l : List Request). length l < length t.waiting)
    (in_state (new_state t.state (kind_of r) (response Success r (length (streams_after Success t.state t.streams r).numbers))) Defunct)
    (λ _. omega (arith, ap length e)) (λ _. omega (arith, ap length e)))

first-reported : (t : Table) (l : List Request) → t.waiting ≡ l → Reports t (report_first Success t l)
first-reported t [] e = tt
first-reported t (r ∷ ws) e = reported-shorter t r ws e

reports : (t : Table) → Reports t (report_t t Success)
reports t =
    by-test (Reports t) (in_state t.state Defunct) (λ _. tt)
    (λ _. by-test (Reports t) t.in_flight (λ _. first-reported t t.waiting refl) (λ _. tt))

-- an arrival is queued, or closes
abbrev Arrives : Answer Said → Type 0
Arrives (refused number place) = Unit {0}
Arrives (returned T.queued) = Unit {0}
Arrives (returned T.closed) = Unit {0}
Arrives (returned T.idle) = ⊥
Arrives (returned (T.handed r n)) = ⊥
Arrives (returned (T.answered s n)) = ⊥

arrives : (t : Table) (r : Request) → Arrives (said_by (arrive_t t r))
arrives t r =
    let P : Answer Done → Type 0 = λ a. Arrives (said_by a) in
    let Q : Done → Type 0 = λ d. Arrives (returned d.said) in
    by-test P (in_state t.state Defunct) (λ _. tt)
    (λ _. by-test P (in_range r)
    (λ _. by-test P (leb 4294967295 t.accepted) (λ _. tt)
    (λ _. by-test P (leb 32 (length t.waiting)) (λ _. tt) (λ _. by-test Q (is RESET r) (λ _. by-test Q (in_state t.state Connected) (λ _. tt) (λ _. tt)) (λ _. tt))))
    (λ _. tt))

-- ---- a record that keeps the rules
-- a call answers what the table says, and the record after it keeps what the table leaves
record Stepped (c : Connection) (x : Call) : Type 0 where
  answer : (call_of c x).answer ≡ said_by (step (kept c) x)
  table : kept (call_of c x).connection ≡ left_by (kept c) (step (kept c) x)
  fit : Fit (call_of c x).connection

first-answer : List Event → Answer Said
first-answer [] = refused 0 0
first-answer (e ∷ es) = e.answer

stepped : (c : Connection) → Fit c → (x : Call) → Stepped c x
unfolding first-answer
stepped c f x = let w = follows c f (x ∷ []) in record { answer = ap first-answer w.seen; table = w.final; fit = w.fit }

abbrev waits : Connection → ℕ
waits c = length (kept c).waiting

-- what a turn with so many waiting says, and the record after it
abbrev Turned : ℕ → Answer Said → Connection → Type 0
Turned n (refused number place) d = Unit {0}
Turned n (returned T.queued) d = ⊥
Turned n (returned T.closed) d = Unit {0}
Turned n (returned T.idle) d = (take_of d).answer ≡ returned T.idle
Turned n (returned (T.handed r k)) d = ⊥
Turned n (returned (T.answered s k)) d = (waits d < n) × Fit d

-- a report after the take that handed the request over
module _ (n : ℕ) (c : Connection) (f : Fit c) (less : waits c ≤ n) where
  after-report : (d : Connection) → Fit d → (a : Answer Done) → kept d ≡ left_by (kept c) a → Reports (kept c) a → Turned n (said_by a) d
  after-report d g (refused number place) e h = tt
  after-report d g (returned u) e h = by u.said h
    where
      by : (s : Said) → Answered (kept c) s u.table → Turned n (returned s) d
      by T.queued h = h
      by T.closed h = absurd h
      by T.idle h = absurd h
      by (T.handed r k) h = h
      by (T.answered s k) h = (omega (arith, h, less, ap (λ (t : Table). length t.waiting) e), g)

  report-turn : Turned n (report_of c Success).answer (report_of c Success).connection
  report-turn =
      let w : Stepped c (T.report Success) = stepped c f (T.report Success) in
      subst (λ (x : Answer Said). Turned n x (report_of c Success).connection) (sym w.answer)
      (after-report (report_of c Success).connection w.fit (report_t (kept c) Success) w.table (reports (kept c)))

-- a take, and the report where it hands over
module _ (c : Connection) (f : Fit c) where
  abbrev Turning : Answer Said → Connection → Type 0
  Turning x d = let a : After = succeeding x (record { connection = d; answer = x }) in Turned (waits c) a.answer a.connection

  after-take : (d : Connection) → Fit d → (a : Answer Done) → said_by (take_t (kept c)) ≡ said_by a → kept d ≡ left_by (kept c) a → Takes (kept c) a → Turning (said_by a) d
  after-take d g (refused number place) s e h = tt
  after-take d g (returned u) s e h = by u.said s h
    where
      by : (x : Said) → said_by (take_t (kept c)) ≡ returned x → Took (kept c) x u.table → Turning (returned x) d
      by T.queued s h = h
      by T.closed s h = tt
      by T.idle s h = (stepped d g T.take).answer ∙ ap (λ (t : Table). said_by (take_t t)) (e ∙ h) ∙ s
      by (T.handed r k) s h = report-turn (waits c) d g (omega (arith, h, ap (λ (t : Table). length t.waiting) e))
      by (T.answered m k) s h = (omega (arith, h, ap (λ (t : Table). length t.waiting) e), g)

  turned : Turned (waits c) (turn_of c).answer (turn_of c).connection
  unfolding turn_of
  turned =
      let w : Stepped c T.take = stepped c f T.take in
      subst (λ (x : Answer Said). Turning x (take_of c).connection) (sym w.answer) (after-take (take_of c).connection w.fit (take_t (kept c)) refl w.table (takes (kept c)))

-- ---- turn after turn
number_of : End → ℕ
number_of idle = 0
number_of End.closed = 1
number_of (End.refusal n) = 1

not-idle : (x : End) → number_of x ≡ 1 → x ≡ idle → ⊥
unfolding number_of
not-idle x e i = let z : ◌≡◌ {A = ℕ} 1 0 = sym e ∙ ap number_of i in omega arith

abbrev Ends : Serving → Type 0
Ends w = w.end ≡ idle → (take_of w.connection).answer ≡ returned T.idle

follows_on : (n m : ℕ) → m < suc n → (x : Answer Said) (d : Connection) (later : Serving) → Turned m x d → (Fit d → waits d < n → Ends later) → Ends (following x d later)
unfolding number_of
follows_on n m h (refused number place) d later w go = λ i. absurd (not-idle (End.refusal number) refl i)
follows_on n m h (returned T.queued) d later w go = absurd w
follows_on n m h (returned T.closed) d later w go = λ i. absurd (not-idle End.closed refl i)
follows_on n m h (returned T.idle) d later w go = λ _. w
follows_on n m h (returned (T.handed r k)) d later w go = absurd w
follows_on n m h (returned (T.answered s k)) d later w go = let l = w.0 in go w.1 (omega arith)

serves : (n : ℕ) (c : Connection) → Fit c → waits c < n → Ends (serving n c)
unfolding serving
serves zero c f h = absurd (omega (arith, h))
serves (suc n) c f h = follows_on n (waits c) h (turn_of c).answer (turn_of c).connection (serving n (turn_of c).connection) (turned c f) (λ g l. serves n (turn_of c).connection g l)

-- ---- after an arrival
refused-ends : (number : ℕ) (w : Serving) → w.end ≡ End.refusal number → Ends w
unfolding number_of
refused-ends number w e = λ i. absurd (not-idle (End.refusal number) refl (sym e ∙ i))

starts : (x : Answer Said) (d : Connection) → Arrives x → Fit d → Ends (following x d (serving turns d))
unfolding number_of
starts (refused number place) d w f = refused-ends number (following (refused number place) d (serving turns d)) refl
starts (returned T.queued) d w f = serves turns d f (omega (arith, f.keeps.long))
starts (returned T.closed) d w f = λ i. absurd (not-idle End.closed refl i)
starts (returned T.idle) d w f = absurd w
starts (returned (T.handed r n)) d w f = absurd w
starts (returned (T.answered s n)) d w f = absurd w

begins : (c : Connection) (r : Request) → Sized c → Ends (following (arrive_of c r).answer (arrive_of c r).connection (serving turns (arrive_of c r).connection))
begins c r s = ⊎_elim fits breaks (either (keeps_rules c))
  where
    fits : keeps_rules c ≡ true → Ends (following (arrive_of c r).answer (arrive_of c r).connection (serving turns (arrive_of c r).connection))
    fits k =
        let w : Stepped c (T.arrive r) = stepped c (rules-fit c s k) (T.arrive r) in
        starts (arrive_of c r).answer (arrive_of c r).connection (subst Arrives (sym w.answer) (arrives (kept c) r)) w.fit

    breaks : keeps_rules c ≡ false → Ends (following (arrive_of c r).answer (arrive_of c r).connection (serving turns (arrive_of c r).connection))
    breaks k =
        subst (λ (a : After). Ends (following a.answer a.connection (serving turns a.connection))) (sym ((claim.checked c (T.arrive r)).broken k))
        (refused-ends 24 (following (refused 24 0) c (serving turns c)) refl)

pub idles : Claim
unfolding served
idles c r = record { nothing_left = begins c r }
