-- `entries::find` meets its contract. Assumes nothing.
use mathlib.Core.Path.{◌∙◌}
use native.Mathlib.Omega.{arith}
use Rattle.entries.proofs.Peeking.{string-within}
use Rattle.entries.proofs.Naming.{number_bound}
use Rattle.entries.proofs.Walking.{all_noted, no_key, no_value, one-noted, last-noted}
use Rattle.entries.proofs.find.Goals as goal

pub returns-in_default : goal.returns-in_default
returns-in_default c =
    let a = c.args in let l = c.loop-i in
    no_key a.message.now a.entries.count a.entries.first l.i l.at l.found l.invariant c.loop-i-test.true c.in_default.ensures

pub overflow_add-place : goal.overflow_add-place
overflow_add-place c = let w = string-within _ _ _ c.in-Some.ensures in omega (arith, w.inside)

pub number_of-number-requires : goal.number_of-number-requires
number_of-number-requires c = (string-within _ _ _ c.in-Some.ensures).inside

pub offset_bounds-found-unwrap_or : goal.offset_bounds-found-unwrap_or
offset_bounds-found-unwrap_or c = let h = number_bound _ _ (c.unwrap_or.ensures ∙ c.number_of-number.ensures) in omega arith

pub bounds-found-unwrap_or : goal.bounds-found-unwrap_or
bounds-found-unwrap_or c = number_bound _ _ (c.unwrap_or.ensures ∙ c.number_of-number.ensures)

pub returns-then-i-entries : goal.returns-then-i-entries
returns-then-i-entries c =
    let a = c.args in let l = c.loop-i in
    last-noted a.message.now a.entries.count a.entries.first l.i l.at l.found l.invariant c.if-i-entries.true _ c.in-Some.ensures _ (c.unwrap_or.ensures ∙ c.number_of-number.ensures)

pub returns-in_default-skip : goal.returns-in_default-skip
returns-in_default-skip c =
    let a = c.args in let l = c.loop-i in
    no_value a.message.now a.entries.count a.entries.first l.i l.at l.found l.invariant c.loop-i-test.true _ c.in-Some.ensures _ (c.unwrap_or.ensures ∙ c.number_of-number.ensures) c.in_default-skip.ensures

pub loop-i-preserved : goal.loop-i-preserved
loop-i-preserved c =
    let a = c.args in let l = c.loop-i in
    one-noted a.message.now a.entries.count a.entries.first l.i l.at l.found l.invariant c.loop-i-test.true _ c.in-Some.ensures _ (c.unwrap_or.ensures ∙ c.number_of-number.ensures) _ c.in-Some-skip.ensures

pub returns : goal.returns
returns c = let a = c.args in let l = c.loop-i in all_noted a.message.now a.entries.count a.entries.first l.i l.at l.found l.invariant (omega arith)
