-- `steps::take::take_first` meets its contract: in each arm the match told the first request's turn. Assumes nothing.
use Rattle.record.specs.Record.{joined}
use Rattle.steps.proofs.Leaving.{turn-closes, turn-resets, turn-ignored, turn-hands, turn-full, turn-unknown}
use Rattle.steps.proofs.take.take_first.Goals as goal
use Rattle.steps.proofs.take.take_first.Goals.{in-Resets, in-Ignored, in-Full, in-Unknown}

pub returns-in-Closes : goal.returns-in-Closes
returns-in-Closes c =
    let a = c.args in
    rw (c.new.ensures, c.defunct.ensures)
    (turn-closes (joined a.control a.streams.now a.queue.now) c.requires.0 c.requires.1.1 c.requires.1.0 c.request_at-first.ensures c.in-Closes.ensures)

pub returns-in-Handed : goal.returns-in-Handed
returns-in-Handed c =
    let a = c.args in
    rw (c.new-in-Handed.ensures, c.handed.ensures)
    (turn-hands (joined a.control a.streams.now a.queue.now) c.requires.0 c.requires.1.1 c.requires.1.0 c.request_at-first.ensures c.in-Handed.ensures)

pub returns : goal.returns
returns c =
    let a = c.args in
    let w = joined a.control a.streams.now a.queue.now in
    rw (c.new-2.ensures, c.answered-control.ensures)
    (elim c.match-turn.branch [
      | in-Resets x ↦ rw (x.state-is, x.after_reset-state.ensures) (turn-resets w c.requires.0 c.requires.1.1 c.requires.1.0 c.request_at-first.ensures x.in-Resets.ensures)
      | in-Ignored x ↦ rw x.state-is (turn-ignored w c.requires.0 c.requires.1.1 c.requires.1.0 c.request_at-first.ensures x.in-Ignored.ensures)
      | in-Full x ↦ rw x.state-is (turn-full w c.requires.0 c.requires.1.1 c.requires.1.0 c.request_at-first.ensures x.in-Full.ensures)
      | in-Unknown x ↦ rw x.state-is (turn-unknown w c.requires.0 c.requires.1.1 c.requires.1.0 c.request_at-first.ensures x.in-Unknown.ensures)
    ])
