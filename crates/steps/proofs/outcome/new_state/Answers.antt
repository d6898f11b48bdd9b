-- `steps::outcome::new_state` meets its contract: in each arm the match told the outcome. Assumes nothing.
use mathlib.Core.Path.{sym, ◌∙◌}
use Rattle.states.specs.Requests.{kind_of}
use Rattle.states.proofs.Rows.{after-failure, after_more}
use Rattle.steps.proofs.outcome.new_state.Goals as goal

pub returns-in-More : goal.returns-in-More
returns-in-More c = rw c.in-More.is (sym (after_more c.args.state (kind_of c.args.request)))

pub returns-in-Failure : goal.returns-in-Failure
returns-in-Failure c = rw c.in-Failure.is (c.after_failure.ensures ∙ sym (after-failure c.args.state (kind_of c.args.request) c.requires.0))
