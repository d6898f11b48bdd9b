-- `reply::reply_to` meets its contract: by the session's phase, and by what the line brings. Assumes nothing.
use Rattle.std.proofs.Common.{refl, Ok, Err}
use Rattle.serving.specs.declared.Ending.TheVariants as E
use Rattle.session.proofs.Replies.{replies-as, awaiting, answers, answers-none}
use Rattle.session.proofs.reply.reply_to.Goals as goal

pub returns-in_default : goal.returns-in_default
returns-in_default c = replies-as (awaiting _ _ c.in_default.is) c.greet.ensures

pub returns-in-Ok-None : goal.returns-in-Ok-None
returns-in-Ok-None c = rw c.silent.ensures (answers-none _ _ _ c.in-Open.is _ (rw c.in-Ok-None.field-0-is at c.in-Ok-None.ensures) (Ok E.Idle) refl _)

pub returns-in-Ok-Some : goal.returns-in-Ok-Some
returns-in-Ok-Some c = answers _ _ _ c.in-Open.is _ (rw c.in-Ok-Some.field-0-is at c.in-Ok-Some.ensures) _ _ _ _ c.request.ensures

pub returns-in-Err : goal.returns-in-Err
returns-in-Err c = rw c.silent-in-Err.ensures (answers-none _ _ _ c.in-Open.is _ c.in-Err.ensures (Err c.in-Err.why) refl _)
