-- What every call asks of a record before anything else. Document 01, "Connection record". Assumes nothing.
use Rattle.std.specs.Prelude.{cond}
use Rattle.refusal.specs.Answer.{Answer, returned, refused}
use Rattle.states.specs.declared.state.State.{State}
use Rattle.states.specs.declared.state.State.TheVariants.{Defunct}
use Rattle.states.specs.Requests.{in_state}
use Rattle.record.specs.declared.record.Connection.{Connection}
use Rattle.record.specs.Record.{state_in, keeps_rules}

-- 24 where the record breaks a standing rule, else 18 where it is DEFUNCT, else its state
abbrev pub opening_of : Connection → Answer State
opening_of c =
    cond (keeps_rules c)
    (cond (in_state (state_in c.control) Defunct) (refused 18 0) (returned (state_in c.control)))
    (refused 24 0)
