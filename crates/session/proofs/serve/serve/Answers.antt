-- `serve::serve` meets its contract. Assumes nothing.
use Rattle.std.proofs.Common.{◌-◌, ◌+◌, arith, inl, inr, Ok, Err}
use Rattle.serving.specs.declared.Ending.TheVariants as E
use Rattle.session.proofs.Room.{sent-short}
use Rattle.session.proofs.Sending.{writes-none, writes-turn, writes-over, writes-fits, writes-next, writes-done}
use Rattle.session.proofs.serve.serve.Goals as goal

pub loop-init : goal.loop-init
loop-init c = writes-none _ _

pub put_summary-end-requires : goal.put_summary-end-requires
put_summary-end-requires c =
    let went = writes-turn (33 - c.loop.counter) (33 - (c.loop.counter + 1)) _ _ _ c.loop.invariant (omega arith) c.turn.ensures.0 (rw c.in-Answered.is at c.in-Ok.ensures.1) in
    writes-fits _ _ went (omega (arith, c.requires, sent-short c.args.connection.now))

pub loop-preserved : goal.loop-preserved
loop-preserved c =
    let went = writes-turn (33 - c.loop.counter) (33 - (c.loop.counter + 1)) _ _ _ c.loop.invariant (omega arith) c.turn.ensures.0 (rw c.in-Answered.is at c.in-Ok.ensures.1) in
    writes-next _ _ went _ _ c.put_summary-end.ensures.answer c.put_summary-end.ensures.filled

pub returns-in-Closed : goal.returns-in-Closed
returns-in-Closed c =
    writes-done _ (Ok E.Closed) (writes-turn (33 - c.loop.counter) (33 - (c.loop.counter + 1)) _ _ _ c.loop.invariant (omega arith) c.turn.ensures.0 (rw c.in-Closed.is at c.in-Ok.ensures.1))

pub returns-in-Err : goal.returns-in-Err
returns-in-Err c =
    writes-done _ (Err c.in-Err.why) (writes-turn (33 - c.loop.counter) (33 - (c.loop.counter + 1)) _ _ _ c.loop.invariant (omega arith) c.turn.ensures.0 c.in-Err.ensures.1)

pub returns-in-Idle : goal.returns-in-Idle
returns-in-Idle c =
    let t = c.in-Ok.ensures.1 in
    elim c.in-Idle.is [
      | inl e ↦ writes-done _ (Ok E.Idle) (writes-turn (33 - c.loop.counter) (33 - (c.loop.counter + 1)) _ _ _ c.loop.invariant (omega arith) c.turn.ensures.0 (rw e at t))
      | inr (number, request, e) ↦ writes-done _ (Ok E.Idle) (writes-turn (33 - c.loop.counter) (33 - (c.loop.counter + 1)) _ _ _ c.loop.invariant (omega arith) c.turn.ensures.0 (rw e at t))
    ]

pub returns : goal.returns
returns c = writes-done _ (Ok E.Idle) (writes-over (33 - c.loop.counter) _ (omega arith) c.loop.invariant)
