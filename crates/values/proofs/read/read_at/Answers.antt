-- `values::read::read_at` meets its contract. Assumes nothing.
use mathlib.Core.Path.{◌≡◌, ap, ◌∙◌}
use Rattle.std.proofs.Common.{rules}
use Rattle.std.specs.Prelude.{Err, Some}
use Rattle.refusal.specs.Answer.{refused, told_at}
use Rattle.refusal.specs.Numbers.{number_of}
use Rattle.refusal.specs.declared.Fault.{Fault}
use Rattle.values.specs.Reading.{tell_value}
use Rattle.values.specs.Walk.{peek_at}
use Rattle.values.proofs.Answers.{value-too-long, value-not-long, there_is_head, read_head, read-stopped}
use Rattle.values.proofs.read.read_at.Goals as goal

pub returns-then-message-gt-MOST_BYTES : goal.returns-then-message-gt-MOST_BYTES
returns-then-message-gt-MOST_BYTES c =
    let a = c.args in
    ap (λ (f : Fault). refused (number_of f.refusal) f.place) c.into.ensures ∙ ap tell_value (value-too-long a.message.now a.depth a.at c.if-message-gt-MOST_BYTES.true)

pub returns-in_err-end : goal.returns-in_err-end
returns-in_err-end c =
    let a = c.args in
    let e : c.from_residual.result ≡ Err c.in_err-end.field-0.0 = search rules in
    ap told_at e ∙ read-stopped a.message.now a.depth a.at _ c.in_err-end.ensures
    ∙ ap tell_value (value-not-long a.message.now a.depth a.at c.if-message-gt-MOST_BYTES.false)

pub unwrap-head-requires : goal.unwrap-head-requires
unwrap-head-requires c =
    let a = c.args in
    there_is_head a.message.now a.depth a.at c.requires c.in_ok-end.end c.in_ok-end.ensures c.peek.result c.peek.ensures

pub returns : goal.returns
returns c =
    let a = c.args in
    let u = c.unwrap-head.ensures in
    let p = c.peek.ensures in
    let f : Some c.unwrap-head.result ≡ peek_at a.message.now a.at = cc in
    read_head a.message.now a.depth a.at c.requires c.in_ok-end.end c.in_ok-end.ensures c.unwrap-head.result f
    ∙ ap tell_value (value-not-long a.message.now a.depth a.at c.if-message-gt-MOST_BYTES.false)
