-- `serve::request` meets its contract: by what the arrival was answered. Assumes nothing.
use Rattle.std.proofs.Common.{Ok, Err}
use Rattle.serving.specs.declared.Ending.TheVariants as E
use Rattle.session.proofs.Sending.{writes-none, writes-done, arrives, sends-as}
use Rattle.session.proofs.serve.request.Goals as goal

pub returns-in-Ok-Queued : goal.returns-in-Ok-Queued
returns-in-Ok-Queued c = sends-as (arrives _ _ _ _ c.arrive.ensures.0 (rw c.in-Ok-Queued.field-0-is at c.in-Ok-Queued.ensures.1)) c.serve.ensures

pub returns-in-Ok-Closed : goal.returns-in-Ok-Closed
returns-in-Ok-Closed c = rw c.silent.ensures (sends-as (arrives _ _ _ _ c.arrive.ensures.0 (rw c.in-Ok-Closed.field-0-is at c.in-Ok-Closed.ensures.1)) (writes-done _ (Ok E.Closed) (writes-none _ _)))

pub returns-in-Err : goal.returns-in-Err
returns-in-Err c = rw c.silent-in-Err.ensures (sends-as (arrives _ _ _ _ c.arrive.ensures.0 c.in-Err.ensures.1) (writes-done _ (Err c.in-Err.why) (writes-none _ _)))
