-- The state table: document 01, "Connection record", from the fresh record to Close and the refusals for calls except 24, as a machine over
-- lists that is fed the calls' arguments alone. Assumes nothing.
use Rattle.std.specs.Prelude.{ℕ, ◌+◌, Bool, true, false, cond, not, ◌&&◌, ◌||◌, List, [], ◌∷◌, ◌++◌, eqb, leb, length}
use Rattle.refusal.specs.Answer.{Answer, returned, refused}
use Rattle.states.specs.declared.state.State.{State}
use Rattle.states.specs.declared.state.State.TheVariants.{Connected, Ready, Streaming, Failed, Interrupted, Defunct}
use Rattle.states.specs.declared.request.Request.{Request}
use Rattle.states.specs.declared.answers.Outcome.{Outcome}
use Rattle.states.specs.declared.answers.Outcome.TheVariants.{Success, More, Failure}
use Rattle.states.specs.declared.answers.Failure.TheVariants.{StreamsFull, StreamUnknown, EngineFailed}
use Rattle.states.specs.declared.answers.Summary.{Summary}
use Rattle.states.specs.declared.answers.Summary.TheVariants as S
use Rattle.states.specs.declared.turn.Turn.{Turn}
use Rattle.states.specs.declared.turn.Turn.TheVariants as U
use Rattle.states.specs.Requests.{kind_of, in_state, in_transaction, is_stopped, is, fetches, in_range, asked, named, is_latest, any}
use Rattle.bolt.specs.Requests.{Kind, RESET, RUN, BEGIN}
use Rattle.states.specs.Appendix.{Response, success, more, last, last-of-several, failure, new_state, hands_over, works}

-- ---- what the table keeps
-- the numbers of the open streams of a transaction, and the next number; the one stream of STREAMING has no number
pub record Open : Type 0 where
  pub numbers : List ℕ
  pub next : ℕ

pub record Table : Type 0 where
  pub state : State
  pub waiting : List Request
  pub in_flight : Bool
  pub streams : Open
  pub accepted : ℕ
  pub sent : ℕ

-- a fresh record
abbrev pub start : Table
start = record { state = Connected; waiting = []; in_flight = false; streams = record { numbers = []; next = 0 }; accepted = 0; sent = 0 }

-- ---- what it answers
pub data Call : Type 0 where
  arrive : Request → Call
  take : Call
  report : Outcome → Call
  close : Call

-- what a call that is not refused says; a request handed over and a summary have the request's number
pub data Said : Type 0 where
  queued : Said
  closed : Said
  idle : Said
  handed : Request → ℕ → Said
  answered : Summary → ℕ → Said

-- what a call that is not refused leaves, and says
pub record Done : Type 0 where
  pub table : Table
  pub said : Said

-- DEFUNCT refuses every call
abbrev pub unless_defunct : Table → Answer Done → Answer Done
unless_defunct t a = cond (in_state t.state Defunct) (refused 18 0) a

-- ---- the streams
abbrev pub none_open : Open → Open
none_open o = record { numbers = []; next = o.next }

-- a RUN in a transaction opens one, and adds 1
abbrev pub one_more : Open → Open
one_more o = record { numbers = o.numbers ++ (o.next ∷ []); next = o.next + 1 }

abbrev pub without : ℕ → List ℕ → List ℕ
without q [] = []
without q (x ∷ xs) = cond (eqb x q) (without q xs) (x ∷ without q xs)

abbrev pub one_less : ℕ → Open → Open
one_less q o = record { numbers = without q o.numbers; next = o.next }

abbrev pub has : ℕ → List ℕ → Bool
has q l = any (λ (x : ℕ). eqb x q) l

-- a request names an open stream: in STREAMING only -1 does
unfoldable pub names_open : State → Open → Request → Bool
names_open s o r = cond (in_state s Streaming) (is_latest (asked r)) (has (named (asked r) o.next) o.numbers)

-- in a transaction with 8 streams open, or after number 65,535 was given
unfoldable pub is_full : State → Open → Bool
is_full s o = in_transaction s && (leb 8 (length o.numbers) || leb 65536 o.next)

-- ---- entering DEFUNCT drops what waits, and empties the streams
abbrev pub defunct : Table → Table
defunct t = record { state = Defunct; waiting = []; in_flight = false; streams = none_open t.streams; accepted = t.accepted; sent = t.sent }

-- ---- arrive
abbrev pub enqueued : Table → State → Open → Request → Table
enqueued t s o r = record { state = s; waiting = t.waiting ++ (r ∷ []); in_flight = t.in_flight; streams = o; accepted = t.accepted + 1; sent = t.sent }

-- RESET makes the state INTERRUPTED and empties the streams at once; in CONNECTED it is accepted and closes instead
abbrev pub accept : Table → Request → Done
accept t r =
    cond (is RESET r)
    (cond (in_state t.state Connected)
    (record { table = defunct (enqueued t t.state t.streams r); said = closed })
    (record { table = enqueued t Interrupted (none_open t.streams) r; said = queued }))
    (record { table = enqueued t t.state t.streams r; said = queued })

abbrev pub arrive_t : Table → Request → Answer Done
arrive_t t r =
    unless_defunct t
    (cond (in_range r)
    (cond (leb 4294967295 t.accepted) (refused 20 0)
    (cond (leb 32 (length t.waiting)) (refused 17 0) (returned (accept t r))))
    (refused 27 0))

-- ---- take
-- a stopped connection ignores work: 003's rows with IGNORED and those that 000 adds, as Stopped.antt says
unfoldable pub ignores : State → Kind → Bool
ignores s k = is_stopped s && works k

-- what becomes of a request whose turn comes: anything that is not named closes
unfoldable pub turn_of : State → Open → Request → Turn
turn_of s o r =
    cond (is RESET r) U.Resets
    (cond (ignores s (kind_of r)) U.Ignored
    (cond (hands_over s (kind_of r))
    (cond (is RUN r && is_full s o) U.Full
    (cond (fetches r && not (names_open s o r)) U.Unknown U.Handed))
    U.Closes))

-- a summary's number, from 1
abbrev pub number_after : ℕ → ℕ
number_after sent = sent + 1

-- the first is answered: ws wait now, and one summary more is sent
abbrev pub counted : Table → State → Open → List Request → Table
counted t s o ws = record { state = s; waiting = ws; in_flight = false; streams = o; accepted = t.accepted; sent = t.sent + 1 }

abbrev pub answer : Table → State → Open → List Request → Summary → Done
answer t s o ws summary = record { table = counted t s o ws; said = answered summary (number_after t.sent) }

-- the turn of r, with ws behind it
abbrev pub taken : Turn → Table → Request → List Request → Done
taken U.Closes t r ws = record { table = defunct t; said = closed }
taken U.Resets t r ws = answer t (cond (any (is RESET) ws) Interrupted Ready) (none_open t.streams) ws S.Success
taken U.Ignored t r ws = answer t t.state t.streams ws S.Ignored
taken U.Handed t r ws = record {
  table = record { state = t.state; waiting = t.waiting; in_flight = true; streams = t.streams; accepted = t.accepted; sent = t.sent };
  said = handed r (t.sent + 1);
}
taken U.Full t r ws = answer t Failed (none_open t.streams) ws (S.Failure StreamsFull)
taken U.Unknown t r ws = answer t Failed (none_open t.streams) ws (S.Failure StreamUnknown)

abbrev pub take_first : Table → List Request → Done
take_first t [] = record { table = t; said = idle }
take_first t (r ∷ ws) = taken (turn_of t.state t.streams r) t r ws

abbrev pub take_t : Table → Answer Done
take_t t = unless_defunct t (returned (cond t.in_flight (record { table = t; said = idle }) (take_first t t.waiting)))

-- ---- report
-- the appendix's response to a request, by its outcome and how many streams are left open
abbrev pub response : Outcome → Request → ℕ → Response
response Success r left = cond (fetches r) (cond (eqb left 0) last last-of-several) success
response More r left = more
response Failure r left = failure

-- the last batch closes its stream, RUN's success in a transaction opens one, BEGIN's sets the next number to 0
unfoldable pub success_streams : State → Open → Request → Open
success_streams s o r =
    cond (fetches r) (one_less (named (asked r) o.next) o)
    (cond (is RUN r && in_transaction s) (one_more o)
    (cond (is BEGIN r) (record { numbers = []; next = 0 }) o))

abbrev pub streams_after : Outcome → State → Open → Request → Open
streams_after Success s o r = success_streams s o r
streams_after More s o r = o
streams_after Failure s o r = none_open o

-- has_more for PULL and DISCARD, qid for RUN in a transaction, which INTERRUPTED is not
unfoldable pub success_summary : State → ℕ → Request → Summary
success_summary s next r = cond (fetches r) (S.HasMore false) (cond (is RUN r && in_transaction s) (S.Stream next) S.Success)

abbrev pub summary_of : Outcome → State → ℕ → Request → Summary
summary_of Success s next r = success_summary s next r
summary_of More s next r = S.HasMore true
summary_of Failure s next r = S.Failure EngineFailed

-- entering DEFUNCT drops what waits
abbrev pub waiting_in : State → List Request → List Request
waiting_in s ws = cond (in_state s Defunct) [] ws

-- the report on r, with ws behind it
abbrev pub settled : Outcome → Table → Request → List Request → Done
settled o t r ws =
    let after : Open = streams_after o t.state t.streams r in
    let new : State = new_state t.state (kind_of r) (response o r (length after.numbers)) in
    answer t new after (waiting_in new ws) (summary_of o t.state t.streams.next r)

-- where INTERRUPTED came in between, the state and the streams stay
abbrev pub reported : Outcome → Table → Request → List Request → Done
reported o t r ws =
    cond (in_state t.state Interrupted) (answer t t.state t.streams ws (summary_of o t.state t.streams.next r)) (settled o t r ws)

-- success with more is for PULL and DISCARD only
abbrev pub fitting : Outcome → Request → Bool
fitting Success r = true
fitting More r = fetches r
fitting Failure r = true

abbrev pub report_first : Outcome → Table → List Request → Answer Done
report_first o t [] = refused 19 0
report_first o t (r ∷ ws) = cond (fitting o r) (returned (reported o t r ws)) (refused 19 0)

abbrev pub report_t : Table → Outcome → Answer Done
report_t t o = unless_defunct t (cond t.in_flight (report_first o t t.waiting) (refused 19 0))

-- ---- close
abbrev pub close_t : Table → Answer Done
close_t t = unless_defunct t (returned (record { table = defunct t; said = closed }))

-- ---- a call
abbrev pub step : Table → Call → Answer Done
step t (arrive r) = arrive_t t r
step t take = take_t t
step t (report o) = report_t t o
step t close = close_t t
