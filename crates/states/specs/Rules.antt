-- The standing rules of document 01, "Connection record", clause by clause. Assumes nothing.
use Rattle.std.specs.Prelude.{ℕ, ◌+◌, Bool, true, false, cond, not, ◌&&◌, List, [], ◌∷◌, eqb, ltb, leb, length}
use Rattle.std.specs.Bool.{beq}
use Rattle.states.specs.declared.state.State.{State}
use Rattle.states.specs.declared.state.State.TheVariants.{TxStreaming, Interrupted, Defunct}
use Rattle.states.specs.declared.request.Request.{Request}
use Rattle.states.specs.declared.turn.Turn.{Turn}
use Rattle.states.specs.declared.turn.Turn.TheVariants.{Closes, Resets, Ignored, Handed, Full, Unknown}
use Rattle.states.specs.Requests.{kind_of, in_state, is, out_of_range, any}
use Rattle.bolt.specs.Requests.{RESET}
use Rattle.states.specs.Appendix.{works}
use Rattle.states.specs.Table.{Open, Table, turn_of, has}

-- "waiting at most 32, their n and qid in range"
unfoldable pub waiting_rule : List Request → Bool
waiting_rule ws = leb (length ws) 32 && not (any out_of_range ws)

-- "distinct .. below the next number"
abbrev pub distinct_below : ℕ → List ℕ → Bool
distinct_below next [] = true
distinct_below next (x ∷ xs) = ltb x next && (not (has x xs) && distinct_below next xs)

-- "open numbers distinct, at most 8, below the next number, which is at most 65,536"
unfoldable pub numbers_rule : Open → Bool
numbers_rule o = leb (length o.numbers) 8 && (leb o.next 65536 && distinct_below o.next o.numbers)

-- "none open but in STREAMING (exactly one, unnumbered) and TX_STREAMING (one to 8)"
abbrev pub open_rule : State → Open → Bool
open_rule s o = beq (in_state s TxStreaming) (leb 1 (length o.numbers))

-- "INTERRUPTED exactly if a RESET waits"
abbrev pub reset_rule : State → List Request → Bool
reset_rule s ws = beq (in_state s Interrupted) (any (is RESET) ws)

abbrev pub is_handed : Turn → Bool
is_handed Closes = false
is_handed Resets = false
is_handed Ignored = false
is_handed Handed = true
is_handed Full = false
is_handed Unknown = false

-- "only if Take, with none in flight, would hand it over in this state with these streams and numbers, or in INTERRUPTED, whatever the
-- streams, if it is of a kind that some state hands over, except HELLO"
unfoldable pub may_be_in_flight : State → Open → Request → Bool
may_be_in_flight s o r = cond (in_state s Interrupted) (works (kind_of r)) (is_handed (turn_of s o r))

abbrev pub first_in_flight : State → Open → List Request → Bool
first_in_flight s o [] = false
first_in_flight s o (r ∷ ws) = may_be_in_flight s o r

-- "in flight only the first waiting"
abbrev pub flight_rule : Bool → State → Open → List Request → Bool
flight_rule in_flight s o ws = cond in_flight (first_in_flight s o ws) true

-- "accepted at most 4,294,967,295; outside DEFUNCT accepted = sent + waiting, in DEFUNCT nothing waits and sent is at most accepted"
unfoldable pub counts_rule : State → ℕ → ℕ → ℕ → Bool
counts_rule s waiting accepted sent =
    leb accepted 4294967295 && cond (in_state s Defunct) (eqb waiting 0 && leb sent accepted) (eqb accepted (sent + waiting))

-- the rules that tie the state to the rest
unfoldable pub state_rules : Table → Bool
state_rules t =
    open_rule t.state t.streams
    && (reset_rule t.state t.waiting
    && (flight_rule t.in_flight t.state t.streams t.waiting
    && counts_rule t.state (length t.waiting) t.accepted t.sent))

unfoldable pub rules : Table → Bool
rules t = waiting_rule t.waiting && (numbers_rule t.streams && state_rules t)
