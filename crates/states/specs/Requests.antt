-- What a state and a request are, apart from the record: names, tests, and the ranges of n and qid. Document 01, "Requests"; 003's names.
-- Assumes nothing.
use Rattle.std.specs.Prelude.{ℕ, ◌-◌, Bool, true, false, not, ◌&&◌, ◌||◌, List, eqb, ℤ, pos, negsuc, Option, Some, None}
use Rattle.std.specs.List.{list_any}
use Rattle.states.specs.declared.state.State.{State}
use Rattle.states.specs.declared.state.State.TheVariants.{Connected, Ready, Streaming, TxReady, TxStreaming, Failed, Interrupted, Defunct}
use Rattle.states.specs.declared.request.Request.{Request}
use Rattle.states.specs.declared.request.Request.TheVariants.{Hello, Goodbye, Reset, Run, Begin, Commit, Rollback, Discard, Pull}
use Rattle.bolt.specs.Requests.{Kind, HELLO, GOODBYE, RESET, RUN, BEGIN, COMMIT, ROLLBACK, DISCARD, PULL, tag}
use Rattle.bolt.specs.Ranges.{minus_one_or}

abbrev pub kind_of : Request → Kind
kind_of Hello = HELLO
kind_of Goodbye = GOODBYE
kind_of Reset = RESET
kind_of Run = RUN
kind_of Begin = BEGIN
kind_of Commit = COMMIT
kind_of Rollback = ROLLBACK
kind_of (Discard n qid) = DISCARD
kind_of (Pull n qid) = PULL

-- the states in 003's order, to tell them apart
abbrev pub rank : State → ℕ
rank Connected = 0
rank Ready = 1
rank Streaming = 2
rank TxReady = 3
rank TxStreaming = 4
rank Failed = 5
rank Interrupted = 6
rank Defunct = 7

abbrev pub in_state : State → State → Bool
in_state s r = eqb (rank s) (rank r)

abbrev pub in_transaction : State → Bool
in_transaction s = in_state s TxReady || in_state s TxStreaming

-- after a failure, and while a RESET waits
abbrev pub is_stopped : State → Bool
is_stopped s = in_state s Failed || in_state s Interrupted

abbrev pub is_kind : Kind → Kind → Bool
is_kind k j = eqb (tag k) (tag j)

abbrev pub is : Kind → Request → Bool
is k r = is_kind (kind_of r) k

-- DISCARD and PULL fetch from a stream
abbrev pub fetching : Kind → Bool
fetching HELLO = false
fetching GOODBYE = false
fetching RESET = false
fetching RUN = false
fetching BEGIN = false
fetching COMMIT = false
fetching ROLLBACK = false
fetching DISCARD = true
fetching PULL = true

abbrev pub fetches : Request → Bool
fetches r = fetching (kind_of r)

-- n is -1 or at least 1, and qid -1 or at least 0
abbrev pub in_range : Request → Bool
in_range Hello = true
in_range Goodbye = true
in_range Reset = true
in_range Run = true
in_range Begin = true
in_range Commit = true
in_range Rollback = true
in_range (Discard n qid) = minus_one_or 1 n && minus_one_or 0 qid
in_range (Pull n qid) = minus_one_or 1 n && minus_one_or 0 qid

abbrev pub out_of_range : Request → Bool
out_of_range r = not (in_range r)

-- the stream that a qid names: none for -1, which means the latest successful RUN of this transaction
abbrev pub asked_by : ℤ → Option ℕ
asked_by (pos q) = Some q
asked_by (negsuc q) = None

-- the stream that DISCARD or PULL is for
abbrev pub asked : Request → Option ℕ
asked Hello = None
asked Goodbye = None
asked Reset = None
asked Run = None
asked Begin = None
asked Commit = None
asked Rollback = None
asked (Discard n qid) = asked_by qid
asked (Pull n qid) = asked_by qid

abbrev pub is_latest : Option ℕ → Bool
is_latest None = true
is_latest (Some q) = false

-- its number, by the number that the next stream gets
abbrev pub named : Option ℕ → ℕ → ℕ
named None next = next - 1
named (Some q) next = q

-- one of a list passes a test
abbrev pub any : {A : Type 0} → (A → Bool) → List A → Bool
any f xs = list_any f xs
