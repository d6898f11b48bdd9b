-- `requests::read::extra_alone` meets its contract: the one field is a Dictionary, or it is not. Assumes nothing.
use mathlib.Core.Path.{◌≡◌, sym, ◌∙◌}
use borrow.Author.Rules.{rules}
use Rattle.std.specs.Prelude.{Err}
use Rattle.requests.specs.Checks.{complaints}
use Rattle.requests.specs.Requests.{extra}
use Rattle.requests.proofs.Fields.{missing, one-wrong, no_extra, extra-there}
use Rattle.requests.proofs.read.extra_alone.Goals as goal

pub returns-then-fields-ne1 : goal.returns-then-fields-ne1
returns-then-fields-ne1 c = λ vs fields f. rw c.into.ensures (sym (one-wrong c.args.fields vs (extra complaints f) fields.count c.if-fields-ne1.true))

pub returns-in_err-entries : goal.returns-in_err-entries
returns-in_err-entries c =
    let a = c.args in λ vs fields.
    let e : c.from_residual.result ≡ Err c.in_err-entries.field-0.0 = search rules in
    let n = missing _ _ _ c.in_err-entries.ensures.value in
    rw (e, n.1, c.at.ensures) (no_extra a.message.now a.at a.fields vs fields c.if-fields-ne1.false (sym n.0 ∙ c.entries_at.ensures))

pub returns : goal.returns
returns c =
    let a = c.args in λ vs fields.
    extra-there a.message.now a.at a.fields vs fields c.if-fields-ne1.false c.in_ok-entries.entries.first c.in_ok-entries.entries.count
    (sym c.in_ok-entries.ensures.ok_part ∙ c.entries_at.ensures) _ c.find.ensures
