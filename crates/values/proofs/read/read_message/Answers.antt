-- `values::read::read_message` meets its contract. Assumes nothing.
use mathlib.Core.Path.{◌≡◌, ap, ◌∙◌}
use Rattle.std.proofs.Common.{rules}
use Rattle.std.specs.Prelude.{Err}
use Rattle.refusal.specs.Answer.{told_at}
use Rattle.markers.specs.Extents.{most_open}
use Rattle.values.specs.Decode.{value_in}
use Rattle.values.specs.Reading.{tell_message}
use Rattle.values.proofs.Answers.{message-whole, message-trailing, message-refused, message-is}
use Rattle.values.proofs.read.read_message.Goals as goal

pub returns-in_err-found : goal.returns-in_err-found
returns-in_err-found c =
    let s = c.args.message.now in
    let e : c.from_residual.result ≡ Err c.in_err-found.field-0.0 = search rules in
    ap told_at e ∙ message-refused s (value_in s most_open 0) _ _ c.in_err-found.ensures ∙ ap (tell_message s) (message-is s)

pub returns-then-found-message : goal.returns-then-found-message
returns-then-found-message c =
    let s = c.args.message.now in
    let r = c.in_ok-found.ensures in
    r ∙ message-whole s (value_in s most_open 0) c.in_ok-found.found r c.if-found-message.true ∙ ap (tell_message s) (message-is s)

pub returns : goal.returns
returns c =
    let s = c.args.message.now in
    let r = c.in_ok-found.ensures in
    rw c.at.ensures (message-trailing s (value_in s most_open 0) c.in_ok-found.found r c.if-found-message.false ∙ ap (tell_message s) (message-is s))
