-- `steps::report::report_first` meets its contract: by the tests passed. Assumes nothing.
use mathlib.Core.Path.{sym}
use Rattle.states.specs.declared.state.State.TheVariants.{Interrupted}
use Rattle.record.proofs.Keeping.{bounds}
use Rattle.steps.proofs.Calls.{state-test}
use Rattle.steps.proofs.Outcomes.{handed, unfitting, interrupted, settles}
use Rattle.steps.proofs.report.report_first.Goals as goal

pub returns-then-not-fits : goal.returns-then-not-fits
returns-then-not-fits c =
    let a = c.args in
    rw c.new.ensures
    (unfitting a.control a.streams.now a.queue.now a.outcome a.state c.request_at-first.result c.requires.1 c.request_at-first.ensures c.requires.0.waits.some (sym c.if-not-fits.ensures))

pub returns-then-eq : goal.returns-then-eq
returns-then-eq c =
    let a = c.args in
    rw (c.new-then-eq.ensures, c.answered-control.ensures)
    (interrupted a.control a.streams.now a.queue.now a.outcome a.state c.request_at-first.result c.requires.1 c.request_at-first.ensures c.requires.0.waits.some
    (bounds a.control c.requires.0.waits.bounds) c.requires.0.long (sym c.if-not-fits.ensures) c.summary_of.ensures (state-test a.state Interrupted c.if-eq.ensures))

pub streams_after-opened-requires : goal.streams_after-opened-requires
streams_after-opened-requires c =
    let a = c.args in (
      (bounds a.control c.requires.0.waits.bounds).fewer,
      (
        c.requires.0.long,
        (handed a.control a.streams.now a.queue.now a.outcome a.state c.request_at-first.result c.requires.1 c.request_at-first.ensures c.requires.0.flies (state-test a.state Interrupted c.if-eq.ensures)).1,
      ),
    )

pub new_state-state-requires : goal.new_state-state-requires
new_state-state-requires c =
    let a = c.args in (
      (handed a.control a.streams.now a.queue.now a.outcome a.state c.request_at-first.result c.requires.1 c.request_at-first.ensures c.requires.0.flies (state-test a.state Interrupted c.if-eq.ensures)).0,
      sym c.if-not-fits.ensures,
    )

pub returns : goal.returns
returns c =
    let a = c.args in
    rw (c.new-2.ensures, c.answered.ensures, c.left_behind-left.ensures)
    (settles a.control a.streams.now a.queue.now a.outcome a.state c.request_at-first.result c.requires.1 c.request_at-first.ensures c.requires.0.waits.some
    (bounds a.control c.requires.0.waits.bounds) c.requires.0.long (sym c.if-not-fits.ensures) c.summary_of.ensures
    c.new_state-state.result c.streams_after-opened.result c.streams_after-opened.new.streams c.streams_after-opened.ensures c.new_state-state.ensures (state-test a.state Interrupted c.if-eq.ensures))
