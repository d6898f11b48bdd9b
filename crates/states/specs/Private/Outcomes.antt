-- The state after the last batch of a stream, and after a failure. Cited only by private contracts. Assumes nothing.
use Rattle.std.specs.Prelude.{ℕ, cond, eqb}
use Rattle.states.specs.declared.state.State.{State}
use Rattle.states.specs.declared.state.State.TheVariants.{Ready, Streaming, TxReady, Failed, Defunct}
use Rattle.states.specs.Requests.{is_kind, in_state}
use Rattle.bolt.specs.Requests.{Kind, HELLO}

-- after the last batch, with `left` streams open
abbrev pub last_state : State → ℕ → State
last_state s left = cond (eqb left 0) (cond (in_state s Streaming) Ready TxReady) s

-- after a failure
abbrev pub failure_state : Kind → State
failure_state k = cond (is_kind k HELLO) Defunct Failed
