-- A stopped connection ignores work: what the state table's one rule for FAILED and INTERRUPTED says, beside the papers' rows and of a whole
-- pipeline. 000, "Message Exchange"; document 02, request 2. That the calls on a record answer as the table does is demand 3. Proved in
-- proofs/Stopped.antt. Assumes nothing.
use Rattle.std.specs.Prelude.{◌≡◌, Bool, true, false, cond, ◌&&◌, List, [], ◌∷◌, ◌++◌, map, ℕ, ◌+◌, length}
use Rattle.refusal.specs.Answer.{Answer, returned}
use Rattle.states.specs.declared.state.State.{State}
use Rattle.states.specs.declared.request.Request.{Request}
use Rattle.states.specs.declared.answers.Summary.TheVariants.{Ignored}
use Rattle.states.specs.declared.turn.Turn.TheVariants as U
use Rattle.states.specs.Requests.{kind_of, is_stopped, is_kind, is, any}
use Rattle.bolt.specs.Requests.{Kind, RESET, RUN, BEGIN, COMMIT, ROLLBACK, DISCARD, PULL}
use Rattle.states.specs.Appendix.{rows, added_rows, is_row, follow, ignored, works}
use Rattle.states.specs.Table as T
use Rattle.states.specs.Table.{Open, Table, Call, Said, number_after, ignores, turn_of}
use Rattle.states.specs.Events.{Event, run_t, events_t}

-- "the six requests RUN to PULL": document 01, Take
abbrev pub run_to_pull : List Kind
run_to_pull = RUN ∷ BEGIN ∷ COMMIT ∷ ROLLBACK ∷ DISCARD ∷ PULL ∷ []

abbrev pub all_work : List Request → Bool
all_work [] = true
all_work (r ∷ rs) = works (kind_of r) && all_work rs

-- a take for each request
abbrev pub takes : List Request → List Call
takes [] = []
takes (r ∷ rs) = T.take ∷ takes rs

-- IGNORED for each request, numbered from the one after `sent`
abbrev pub all_ignored : ℕ → List Request → List (Answer Said)
all_ignored sent [] = []
all_ignored sent (r ∷ rs) = returned (T.answered Ignored (number_after sent)) ∷ all_ignored (number_after sent) rs

-- t, where so many have their summaries and ws still wait
abbrev pub passed : Table → ℕ → List Request → Table
passed t count ws = record { state = t.state; waiting = ws; in_flight = false; streams = t.streams; accepted = t.accepted; sent = t.sent + count }

-- the first requests that wait, all of them work, and those behind them, in a stopped connection with none in flight
pub record Stopped (t : Table) (first behind : List Request) : Type 0 where
  pub stopped : is_stopped t.state ≡ true
  pub none : t.in_flight ≡ false
  pub wait : t.waiting ≡ first ++ behind
  pub work : all_work first ≡ true

pub record Claim : Type 0 where
  -- work is these six
  pub six : (k : Kind) → works k ≡ any (is_kind k) run_to_pull
  -- ignored is what has a row with IGNORED, 003's or an added one, and nothing else
  pub listed : (s : State) (k : Kind) → ignores s k ≡ any (is_row s k ignored) (rows ++ added_rows)
  -- every such row leaves the state
  pub stays : (s : State) (k : Kind) → follow s k ignored (rows ++ added_rows) ≡ s
  -- the turn of any request in a stopped connection: RESET has its SUCCESS, work is ignored, HELLO and GOODBYE close
  pub turns : (s : State) (o : Open) (r : Request) → is_stopped s ≡ true → turn_of s o r ≡ cond (is RESET r) U.Resets (cond (works (kind_of r)) U.Ignored U.Closes)
  -- work in a pipeline, however long, is answered with IGNORED in its order
  pub ignoring : (t : Table) (first behind : List Request) → Stopped t first behind
      → map (λ (e : Event). e.answer) (events_t t (takes first)) ≡ all_ignored t.sent first
  -- and leaves the state, the streams and the next number
  pub keeping : (t : Table) (first behind : List Request) → Stopped t first behind → run_t t (takes first) ≡ passed t (length first) behind
