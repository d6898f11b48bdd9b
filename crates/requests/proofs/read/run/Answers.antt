-- `requests::read::run` meets its contract: field by field, as far as they are right. Assumes nothing.
use mathlib.Core.Path.{◌≡◌, sym, ap, ◌∙◌}
use native.Mathlib.Omega.{arith}
use borrow.Author.Rules.{rules}
use Rattle.std.specs.Prelude.{Err}
use Prim.Native.Nat.{◌+◌}
use Rattle.refusal.specs.Answer.{Answer, returned, and_then, placed}
use Rattle.refusal.specs.declared.Refusal.TheVariants.{WrongKind}
use Rattle.requests.specs.Checks.{complaints}
use Rattle.requests.specs.Requests.{run}
use Rattle.markers.specs.declared.extent.Span.{Span}
use Rattle.requests.specs.declared.request.Transaction.{Transaction}
use Rattle.requests.specs.declared.request.Request.{Request}
use Rattle.requests.specs.declared.request.Request.TheVariants as R
use Rattle.entries.proofs.Peeking.{string-within}
use Rattle.requests.proofs.Fields.{missing, three-wrong, no-query, no-parameters, not-cut, no-run-extra, run-there}
use Rattle.requests.proofs.read.run.Goals as goal

-- the request, once its transaction is right
abbrev run_with : Span → Transaction → Answer Request
run_with query t = returned (R.Run query (query.start + query.size) t)

pub returns-then-fields-ne3 : goal.returns-then-fields-ne3
returns-then-fields-ne3 c = λ vs fields. rw c.into.ensures (three-wrong c.args.fields vs (run complaints) fields.count c.if-fields-ne3.true)

pub returns-in_err-query : goal.returns-in_err-query
returns-in_err-query c =
    let a = c.args in λ vs fields.
    let e : c.from_residual.result ≡ Err c.in_err-query.field-0.0 = search rules in
    let n = missing _ _ _ c.in_err-query.ensures.value in
    rw (e, n.1, c.at.ensures) (no-query a.message.now a.at a.fields vs fields c.if-fields-ne3.false (sym n.0 ∙ c.string_at.ensures))

pub overflow_add-parameters : goal.overflow_add-parameters
overflow_add-parameters c =
    let a = c.args in let w = string-within a.message.now a.at c.in_ok-query.query (sym c.in_ok-query.ensures.ok_part ∙ c.string_at.ensures) in omega (arith, w.inside)

pub returns-in_err-ok_or : goal.returns-in_err-ok_or
returns-in_err-ok_or c =
    let a = c.args in λ vs fields.
    let e : c.from_residual-in_err-ok_or.result ≡ Err c.in_err-ok_or.field-0.0 = search rules in
    let n = missing _ _ _ c.in_err-ok_or.ensures.value in
    rw (e, n.1, c.at-2.ensures)
    (no-parameters a.message.now a.at a.fields vs fields c.if-fields-ne3.false
    c.in_ok-query.query (sym c.in_ok-query.ensures.ok_part ∙ c.string_at.ensures) (sym n.0 ∙ c.entries_at.ensures))

pub returns-in_err-extra : goal.returns-in_err-extra
returns-in_err-extra c =
    let a = c.args in λ vs fields.
    let n = missing _ _ _ c.in_err-extra.ensures.value in
    absurd (not-cut a.message.now a.at a.fields vs fields c.if-fields-ne3.false
    c.in_ok-query.query (sym c.in_ok-query.ensures.ok_part ∙ c.string_at.ensures)
    _ _ (sym c.in_ok-ok_or.ensures.ok_part ∙ c.entries_at.ensures)
    (sym n.0 ∙ c.skip.ensures))

pub returns-in_err-entries : goal.returns-in_err-entries
returns-in_err-entries c =
    let a = c.args in λ vs fields.
    let e : c.from_residual-in_err-entries.result ≡ Err c.in_err-entries.field-0.0 = search rules in
    let n = missing _ _ _ c.in_err-entries.ensures.value in
    let w : c.in_err-entries.field-0.0 ≡ placed WrongKind c.in_ok-extra.extra = search (rules, n.1) in
    rw (e, w)
    (no-run-extra a.message.now a.at a.fields vs fields c.if-fields-ne3.false
    c.in_ok-query.query (sym c.in_ok-query.ensures.ok_part ∙ c.string_at.ensures)
    _ _ (sym c.in_ok-ok_or.ensures.ok_part ∙ c.entries_at.ensures)
    c.in_ok-extra.extra (sym c.in_ok-extra.ensures.ok_part ∙ c.skip.ensures)
    (sym n.0 ∙ c.entries_at-2.ensures))

pub returns-in_err-transaction : goal.returns-in_err-transaction
returns-in_err-transaction c =
    let a = c.args in λ vs fields.
    let e : c.from_residual-in_err-transaction.result ≡ Err c.in_err-transaction.field-0.0 = search rules in
    rw e
    (ap (λ (t : Answer Transaction). and_then t (run_with c.in_ok-query.query)) c.in_err-transaction.ensures
    ∙ run-there a.message.now a.at a.fields vs fields c.if-fields-ne3.false
    c.in_ok-query.query (sym c.in_ok-query.ensures.ok_part ∙ c.string_at.ensures)
    _ _ (sym c.in_ok-ok_or.ensures.ok_part ∙ c.entries_at.ensures)
    c.in_ok-extra.extra (sym c.in_ok-extra.ensures.ok_part ∙ c.skip.ensures)
    _ _ (sym c.in_ok-entries.ensures.ok_part ∙ c.entries_at-2.ensures) _ c.find-found.ensures)

pub returns : goal.returns
returns c =
    let a = c.args in λ vs fields.
    ap (λ (t : Answer Transaction). and_then t (run_with c.in_ok-query.query)) c.in_ok-transaction.ensures
    ∙ run-there a.message.now a.at a.fields vs fields c.if-fields-ne3.false
    c.in_ok-query.query (sym c.in_ok-query.ensures.ok_part ∙ c.string_at.ensures)
    _ _ (sym c.in_ok-ok_or.ensures.ok_part ∙ c.entries_at.ensures)
    c.in_ok-extra.extra (sym c.in_ok-extra.ensures.ok_part ∙ c.skip.ensures)
    _ _ (sym c.in_ok-entries.ensures.ok_part ∙ c.entries_at-2.ensures) _ c.find-found.ensures
