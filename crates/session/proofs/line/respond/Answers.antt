-- `line::respond` meets its contract: by why the reply ended. Assumes nothing.
use Rattle.std.proofs.Common.{refl, ap, ◌∙◌, arith, Ok}
use Rattle.serving.specs.declared.Ending.TheVariants as E
use Rattle.session.proofs.Room.{room}
use Rattle.session.proofs.Replies.{ends-quietly, refusal-fits, ends-refused}
use Rattle.session.proofs.line.respond.Goals as goal

pub put_line-end-requires : goal.put_line-end-requires
put_line-end-requires c = refusal-fits c.reply_to-reply.ensures (omega (arith, c.requires, (room c.args.session.now c.args.line.now).most)) _ c.in-Err.is

pub returns-in-Idle : goal.returns-in-Idle
returns-in-Idle c =
    ends-quietly c.reply_to-reply.ensures (omega (arith, c.requires, (room c.args.session.now c.args.line.now).most)) (Ok E.Idle) (c.in-Ok.is ∙ ap Ok c.in-Idle.is) refl refl _ refl

pub returns-in-Closed : goal.returns-in-Closed
returns-in-Closed c =
    ends-quietly c.reply_to-reply.ensures (omega (arith, c.requires, (room c.args.session.now c.args.line.now).most)) (Ok E.Closed) (c.in-Ok.is ∙ ap Ok c.in-Closed.is) refl refl _ refl

pub returns-in-Err : goal.returns-in-Err
returns-in-Err c =
    ends-refused c.reply_to-reply.ensures (omega (arith, c.requires, (room c.args.session.now c.args.line.now).most)) _ c.in-Err.is _ c.leave.ensures _ _ _ c.number.ensures c.put_line-end.ensures.answer c.put_line-end.ensures.filled
