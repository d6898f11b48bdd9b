-- 003, "Appendix - Bolt Message State Transitions", row by row: the requests that are handed over or ignored in a state, each response, and
-- the state that follows; and the rows that 000 adds. Assumes nothing.
use Rattle.std.specs.Prelude.{Bool, cond, not, ◌&&◌, List, [], ◌∷◌, ℕ, eqb}
use Rattle.states.specs.declared.state.State.{State}
use Rattle.states.specs.declared.state.State.TheVariants.{Connected, Ready, Streaming, TxReady, TxStreaming, Failed, Interrupted, Defunct}
use Rattle.states.specs.Requests.{in_state, is_kind, any}
use Rattle.bolt.specs.Requests.{Kind, HELLO, RUN, BEGIN, COMMIT, ROLLBACK, DISCARD, PULL}

-- the response's column
pub data Response : Type 0 where
  -- SUCCESS {}, and SUCCESS {"qid": id} for a RUN in a transaction
  success : Response
  -- SUCCESS {"has_more": true}
  more : Response
  -- SUCCESS {"has_more": false}
  last : Response
  -- the same "if there is other streams open"
  last-of-several : Response
  -- FAILURE {}
  failure : Response
  -- IGNORED
  ignored : Response

-- state, request, response, new state
pub data Row : Type 0 where
  row : State → Kind → Response → State → Row

-- RESET and GOODBYE have no row here: GOODBYE closes, and RESET interrupts as it arrives (003's second table), where 003 gives CONNECTED no row
abbrev pub rows : List Row
rows =
    row Connected HELLO success Ready
    ∷ row Connected HELLO failure Defunct
    ∷ row Ready RUN success Streaming
    ∷ row Ready RUN failure Failed
    ∷ row Ready BEGIN success TxReady
    ∷ row Ready BEGIN failure Failed
    ∷ row Streaming PULL more Streaming
    ∷ row Streaming PULL last Ready
    ∷ row Streaming PULL failure Failed
    ∷ row Streaming DISCARD more Streaming
    ∷ row Streaming DISCARD last Ready
    ∷ row Streaming DISCARD failure Failed
    ∷ row TxReady RUN success TxStreaming
    ∷ row TxReady RUN failure Failed
    ∷ row TxReady COMMIT success Ready
    ∷ row TxReady COMMIT failure Failed
    ∷ row TxReady ROLLBACK success Ready
    ∷ row TxReady ROLLBACK failure Failed
    ∷ row TxStreaming RUN success TxStreaming
    ∷ row TxStreaming RUN failure Failed
    ∷ row TxStreaming PULL more TxStreaming
    ∷ row TxStreaming PULL last TxReady
    ∷ row TxStreaming PULL last-of-several TxStreaming
    ∷ row TxStreaming PULL failure Failed
    ∷ row TxStreaming DISCARD more TxStreaming
    ∷ row TxStreaming DISCARD last TxReady
    ∷ row TxStreaming DISCARD last-of-several TxStreaming
    ∷ row TxStreaming DISCARD failure Failed
    ∷ row Failed RUN ignored Failed
    ∷ row Failed PULL ignored Failed
    ∷ row Failed DISCARD ignored Failed
    ∷ row Interrupted RUN ignored Interrupted
    ∷ row Interrupted PULL ignored Interrupted
    ∷ row Interrupted DISCARD ignored Interrupted
    ∷ row Interrupted BEGIN ignored Interrupted
    ∷ row Interrupted COMMIT ignored Interrupted
    ∷ row Interrupted ROLLBACK ignored Interrupted
    ∷ []

-- 000, "Message Exchange": after a failure "the server must ignore all subsequent requests until the connection from the server side is in the
-- READY state". 003 names three of the six for FAILED; document 02, request 2, adds the others.
abbrev pub added_rows : List Row
added_rows =
    row Failed BEGIN ignored Failed
    ∷ row Failed COMMIT ignored Failed
    ∷ row Failed ROLLBACK ignored Failed
    ∷ []

abbrev pub column : Response → ℕ
column success = 0
column more = 1
column last = 2
column last-of-several = 3
column failure = 4
column ignored = 5

-- a row for this state, request and response
abbrev pub is_row : State → Kind → Response → Row → Bool
is_row s k r (row s' k' r' new) = in_state s s' && (is_kind k k' && eqb (column r) (column r'))

abbrev pub new_of : Row → State
new_of (row s k r new) = new

-- the new state of the first such row; where there is none, the state stays
abbrev pub follow : State → Kind → Response → List Row → State
follow s k r [] = s
follow s k r (x ∷ xs) = cond (is_row s k r x) (new_of x) (follow s k r xs)

-- the state that follows
unfoldable pub new_state : State → Kind → Response → State
new_state s k r = follow s k r rows

-- handed to the engine in this state: what the engine may fail
unfoldable pub hands_over : State → Kind → Bool
hands_over s k = any (is_row s k failure) rows

-- handed to the engine in some state
unfoldable pub handed_somewhere : Kind → Bool
handed_somewhere k = any (λ (s : State). hands_over s k) (Connected ∷ Ready ∷ Streaming ∷ TxReady ∷ TxStreaming ∷ Failed ∷ Interrupted ∷ Defunct ∷ [])

-- work, "of a kind that some state hands over, except HELLO": document 01, the standing rules
unfoldable pub works : Kind → Bool
works k = handed_somewhere k && not (is_kind k HELLO)
