-- States and requests by their numbers: a state has its place in 003's list, a request its tag. Assumes nothing.
use Rattle.std.specs.Prelude.{ℕ, Bool, cond, eqb, leb, ℤ, pos}
use Rattle.states.specs.declared.state.State.{State}
use Rattle.states.specs.declared.state.State.TheVariants.{Connected, Ready, Streaming, TxReady, TxStreaming, Failed, Interrupted, Defunct}
use Rattle.states.specs.declared.request.Request.{Request}
use Rattle.states.specs.declared.request.Request.TheVariants.{Hello, Goodbye, Reset, Run, Begin, Commit, Rollback, Discard, Pull}
use Rattle.states.specs.Requests.{kind_of, rank}
use Rattle.bolt.specs.Requests.{tag, HELLO, GOODBYE, RESET, RUN, BEGIN, COMMIT, ROLLBACK, DISCARD}

-- the state of this rank; any other number is taken for the last
abbrev pub state_of : ℕ → State
state_of n =
    cond (eqb n (rank Connected)) Connected
    (cond (eqb n (rank Ready)) Ready
    (cond (eqb n (rank Streaming)) Streaming
    (cond (eqb n (rank TxReady)) TxReady
    (cond (eqb n (rank TxStreaming)) TxStreaming
    (cond (eqb n (rank Failed)) Failed
    (cond (eqb n (rank Interrupted)) Interrupted Defunct))))))

-- a number names a state if it is at most the last one's
abbrev pub is_state : ℕ → Bool
is_state n = leb n (rank Defunct)

-- the request of this tag, with n and qid for DISCARD and PULL; any other number is taken for the last
abbrev pub request_of : ℕ → ℤ → ℤ → Request
request_of kind n qid =
    cond (eqb kind (tag HELLO)) Hello
    (cond (eqb kind (tag GOODBYE)) Goodbye
    (cond (eqb kind (tag RESET)) Reset
    (cond (eqb kind (tag RUN)) Run
    (cond (eqb kind (tag BEGIN)) Begin
    (cond (eqb kind (tag COMMIT)) Commit
    (cond (eqb kind (tag ROLLBACK)) Rollback
    (cond (eqb kind (tag DISCARD)) (Discard n qid) (Pull n qid))))))))

-- a number that names a request is the tag of the one that it is taken for
abbrev pub is_request : ℕ → Bool
is_request kind = eqb (tag (kind_of (request_of kind (pos 0) (pos 0)))) kind

-- a request's n and qid: only DISCARD and PULL carry them, the others have zeros
abbrev pub count_of : Request → ℤ
count_of Hello = pos 0
count_of Goodbye = pos 0
count_of Reset = pos 0
count_of Run = pos 0
count_of Begin = pos 0
count_of Commit = pos 0
count_of Rollback = pos 0
count_of (Discard n qid) = n
count_of (Pull n qid) = n

abbrev pub qid_of : Request → ℤ
qid_of Hello = pos 0
qid_of Goodbye = pos 0
qid_of Reset = pos 0
qid_of Run = pos 0
qid_of Begin = pos 0
qid_of Commit = pos 0
qid_of Rollback = pos 0
qid_of (Discard n qid) = qid
qid_of (Pull n qid) = qid
