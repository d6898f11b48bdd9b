-- What one pass over the places in which requests wait finds. Cited only by private contracts. Assumes nothing.
use Rattle.std.specs.Prelude.{Bool, false, cond, not, List}
use Rattle.states.specs.declared.state.State.{State}
use Rattle.states.specs.declared.state.State.TheVariants.{Interrupted}
use Rattle.states.specs.Requests.{in_state, any}
use Rattle.record.specs.declared.scan.Seen.{Seen}
use Rattle.record.specs.declared.scan.Seen.TheVariants.{Plain, WithReset, Wrong}
use Rattle.record.specs.Ring.{Place, wrong, is_reset}

abbrev pub seen_of : List Place → Seen
seen_of ps = cond (any wrong ps) Wrong (cond (any (λ (p : Place). is_reset p.kind) ps) WithReset Plain)

-- nothing wrong, and INTERRUPTED exactly if a RESET waits
abbrev pub seen_holds : State → Seen → Bool
seen_holds s Plain = not (in_state s Interrupted)
seen_holds s WithReset = in_state s Interrupted
seen_holds s Wrong = false
