-- `steps::arrive::accept` meets its contract: by whether it is a RESET, and the state. Assumes nothing.
use mathlib.Core.Path.{sym, ap, ◌∙◌}
use Rattle.bolt.specs.Requests.{RESET}
use Rattle.states.specs.declared.state.State.{State}
use Rattle.states.specs.declared.state.State.TheVariants.{Connected}
use Rattle.states.specs.Requests.{is, in_state}
use Rattle.record.specs.Record.{joined}
use Rattle.record.proofs.Keeping.{bounds}
use Rattle.steps.proofs.Calls.{state-test, no-reset}
use Rattle.steps.proofs.Leaving.{accept-closes, accept-resets, accept-queues}
use Rattle.steps.proofs.arrive.accept.Goals as goal
use Rattle.steps.proofs.arrive.accept.Goals.{in-Reset+else-eq, in_default}

pub returns-then-eq : goal.returns-then-eq
returns-then-eq c =
    let a = c.args in
    record {
      whatever = λ streams long.
          rw (c.new.ensures, c.defunct.ensures, c.counted-counted.ensures)
          (accept-closes (joined a.control streams a.queue.now) c.requires.0 long a.request (ap (is RESET) c.in-Reset.is)
          (ap (λ (s : State). in_state s Connected) (sym c.requires.1) ∙ state-test a.state Connected c.if-eq.ensures));
    }

pub store-requires : goal.store-requires
store-requires c = ((bounds c.args.control c.requires.0.bounds).first, c.requires.0.short)

pub returns : goal.returns
returns c =
    let a = c.args in
    record {
      whatever = λ streams long.
          rw (c.new-2.ensures, c.counted.ensures, c.store.ensures)
          (elim c.match-request.branch [
            | in-Reset+else-eq w ↦ rw w.state-is (accept-resets (joined a.control streams a.queue.now) c.requires.0 long a.request (ap (is RESET) w.in-Reset.is)
                (ap (λ (s : State). in_state s Connected) (sym c.requires.1) ∙ state-test a.state Connected w.if-eq.ensures))
            | in_default w ↦ rw (w.state-is, c.requires.1) (accept-queues (joined a.control streams a.queue.now) c.requires.0 long a.request (no-reset a.request w.in_default.not-Reset))
          ]);
    }
