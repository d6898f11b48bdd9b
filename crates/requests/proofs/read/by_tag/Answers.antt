-- `requests::read::by_tag` meets its contract: by the tag. Assumes nothing.
use mathlib.Core.Path.{◌≡◌, sym, ap, ◌∙◌}
use native.Mathlib.Omega.{arith}
use borrow.Author.Rules.{rules}
use borrow.Author.Tests.{ne_eqb}
use Rattle.std.specs.Prelude.{Err}
use Rattle.refusal.specs.Answer.{Answer, returned, and_then}
use Rattle.entries.specs.Walk.{entry_in}
use Rattle.requests.specs.Checks.{complaints}
use Rattle.requests.specs.Requests.{tagged, hello, begin, discard, pull}
use Rattle.requests.specs.declared.request.Transaction.{Transaction}
use Rattle.requests.specs.declared.request.Batch.{Batch}
use Rattle.requests.specs.declared.request.Request.TheVariants as R
use Rattle.requests.proofs.Fields.{none_is}
use Rattle.requests.proofs.Viewed.{hello-seen, begin-seen, discard-seen, pull-seen}
use Rattle.requests.proofs.read.by_tag.Goals as goal

pub returns-in_err-found-in-1 : goal.returns-in_err-found-in-1
unfolding tagged
returns-in_err-found-in-1 c = λ vs fields.
    let e : c.from_residual.result ≡ Err c.in_err-found-in-1.field-0.0 = search rules in
    rw (e, c.in-1.is) (sym (c.in_err-found-in-1.ensures vs fields (hello complaints c.args.version.minor)))

pub returns-in_err-found-in-17 : goal.returns-in_err-found-in-17
unfolding tagged
returns-in_err-found-in-17 c = λ vs fields.
    let e : c.from_residual-in_err-found-in-17.result ≡ Err c.in_err-found-in-17.field-0.0 = search rules in
    rw (e, c.in-17.is) (sym (c.in_err-found-in-17.ensures vs fields (begin complaints)))

pub returns-in_err-found-in-47 : goal.returns-in_err-found-in-47
unfolding tagged
returns-in_err-found-in-47 c = λ vs fields.
    let e : c.from_residual-in_err-found-in-47.result ≡ Err c.in_err-found-in-47.field-0.0 = search rules in
    rw (e, c.in-47.is) (sym (c.in_err-found-in-47.ensures vs fields (discard complaints)))

pub returns-in_err-found-in-63 : goal.returns-in_err-found-in-63
unfolding tagged
returns-in_err-found-in-63 c = λ vs fields.
    let e : c.from_residual-in_err-found-in-63.result ≡ Err c.in_err-found-in-63.field-0.0 = search rules in
    rw (e, c.in-63.is) (sym (c.in_err-found-in-63.ensures vs fields (pull complaints)))

pub returns-in_ok-found-in-1 : goal.returns-in_ok-found-in-1
unfolding tagged
returns-in_ok-found-in-1 c = let a = c.args in λ vs fields.
    let x = c.in_ok-found-in-1.ensures vs fields in
    rw c.in-1.is (c.hello.ensures ∙ hello-seen complaints (entry_in a.message.now c.in_ok-found-in-1.found) x.0 x.1 a.version.minor a.at ∙ sym (x.2 (hello complaints c.args.version.minor)))

pub returns-in_err-transaction-in-17 : goal.returns-in_err-transaction-in-17
unfolding tagged
returns-in_err-transaction-in-17 c = let a = c.args in λ vs fields.
    let x = c.in_ok-found-in-17.ensures vs fields in
    let e : c.from_residual-in_err-transaction-in-17.result ≡ Err c.in_err-transaction-in-17.field-0.0 = search rules in
    rw (e, c.in-17.is)
    (ap (λ (t : Answer Transaction). and_then t (λ t. returned (R.Begin t))) c.in_err-transaction-in-17.ensures
    ∙ begin-seen complaints (entry_in a.message.now c.in_ok-found-in-17.found) x.0 x.1 a.at ∙ sym (x.2 (begin complaints)))

pub returns-in_ok-transaction-in-17 : goal.returns-in_ok-transaction-in-17
unfolding tagged
returns-in_ok-transaction-in-17 c = let a = c.args in λ vs fields.
    let x = c.in_ok-found-in-17.ensures vs fields in
    rw c.in-17.is
    (ap (λ (t : Answer Transaction). and_then t (λ t. returned (R.Begin t))) c.in_ok-transaction-in-17.ensures
    ∙ begin-seen complaints (entry_in a.message.now c.in_ok-found-in-17.found) x.0 x.1 a.at ∙ sym (x.2 (begin complaints)))

pub returns-in_err-batch-in-47 : goal.returns-in_err-batch-in-47
unfolding tagged
returns-in_err-batch-in-47 c = let a = c.args in λ vs fields.
    let x = c.in_ok-found-in-47.ensures vs fields in
    let e : c.from_residual-in_err-batch-in-47.result ≡ Err c.in_err-batch-in-47.field-0.0 = search rules in
    rw (e, c.in-47.is)
    (ap (λ (t : Answer Batch). and_then t (λ t. returned (R.Discard t))) c.in_err-batch-in-47.ensures
    ∙ discard-seen complaints (entry_in a.message.now c.in_ok-found-in-47.found) x.0 x.1 a.at ∙ sym (x.2 (discard complaints)))

pub returns-in_ok-batch-in-47 : goal.returns-in_ok-batch-in-47
unfolding tagged
returns-in_ok-batch-in-47 c = let a = c.args in λ vs fields.
    let x = c.in_ok-found-in-47.ensures vs fields in
    rw c.in-47.is
    (ap (λ (t : Answer Batch). and_then t (λ t. returned (R.Discard t))) c.in_ok-batch-in-47.ensures
    ∙ discard-seen complaints (entry_in a.message.now c.in_ok-found-in-47.found) x.0 x.1 a.at ∙ sym (x.2 (discard complaints)))

pub returns-in_err-batch-in-63 : goal.returns-in_err-batch-in-63
unfolding tagged
returns-in_err-batch-in-63 c = let a = c.args in λ vs fields.
    let x = c.in_ok-found-in-63.ensures vs fields in
    let e : c.from_residual-in_err-batch-in-63.result ≡ Err c.in_err-batch-in-63.field-0.0 = search rules in
    rw (e, c.in-63.is)
    (ap (λ (t : Answer Batch). and_then t (λ t. returned (R.Pull t))) c.in_err-batch-in-63.ensures
    ∙ pull-seen complaints (entry_in a.message.now c.in_ok-found-in-63.found) x.0 x.1 a.at ∙ sym (x.2 (pull complaints)))

pub returns-in_ok-batch-in-63 : goal.returns-in_ok-batch-in-63
unfolding tagged
returns-in_ok-batch-in-63 c = let a = c.args in λ vs fields.
    let x = c.in_ok-found-in-63.ensures vs fields in
    rw c.in-63.is
    (ap (λ (t : Answer Batch). and_then t (λ t. returned (R.Pull t))) c.in_ok-batch-in-63.ensures
    ∙ pull-seen complaints (entry_in a.message.now c.in_ok-found-in-63.found) x.0 x.1 a.at ∙ sym (x.2 (pull complaints)))

pub returns-in-2 : goal.returns-in-2
unfolding tagged
returns-in-2 c = λ vs fields. c.bare.ensures ∙ none_is c.args.fields vs _ fields.count ∙ rw c.in-2.is

pub returns-in-15 : goal.returns-in-15
unfolding tagged
returns-in-15 c = λ vs fields. c.bare-in-15.ensures ∙ none_is c.args.fields vs _ fields.count ∙ rw c.in-15.is

pub returns-in-18 : goal.returns-in-18
unfolding tagged
returns-in-18 c = λ vs fields. c.bare-in-18.ensures ∙ none_is c.args.fields vs _ fields.count ∙ rw c.in-18.is

pub returns-in-19 : goal.returns-in-19
unfolding tagged
returns-in-19 c = λ vs fields. c.bare-in-19.ensures ∙ none_is c.args.fields vs _ fields.count ∙ rw c.in-19.is

pub returns-in-16 : goal.returns-in-16
unfolding tagged
returns-in-16 c = λ vs fields. c.run.ensures vs fields ∙ rw c.in-16.is

pub returns-in_default : goal.returns-in_default
unfolding tagged
returns-in_default c = let t = c.args.tag in λ vs fields.
    rw (
      c.into.ensures,
      ne_eqb t 0x01 (omega arith),
      ne_eqb t 0x02 (omega arith),
      ne_eqb t 0x0F (omega arith),
      ne_eqb t 0x10 (omega arith),
      ne_eqb t 0x11 (omega arith),
      ne_eqb t 0x12 (omega arith),
      ne_eqb t 0x13 (omega arith),
      ne_eqb t 0x2F (omega arith),
      ne_eqb t 0x3F (omega arith),
    )
