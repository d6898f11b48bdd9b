-- `entries::key::number_of` meets its contract. The loop's invariant: the k-th name is the first that the key may be. Assumes nothing.
use mathlib.Core.Path.{sym, ◌∙◌}
use native.Mathlib.Omega.{arith}
use Rattle.slices.proofs.Parts.{length_part}
use Rattle.entries.proofs.Naming.{too_long, try-first, found_name, other_name, none_left, next-later}
use Rattle.entries.proofs.key.number_of.Goals as goal

pub returns-then-size-gt11 : goal.returns-then-size-gt11
returns-then-size-gt11 c = let a = c.args in too_long _ a.size (length_part a.message.now a.start a.size c.requires) c.if-size-gt11.true

pub loop-k-init : goal.loop-k-init
loop-k-init c =
    let a = c.args in
    try-first _ a.size (length_part a.message.now a.start a.size c.requires) (omega arith)

pub is_name-requires : goal.is_name-requires
is_name-requires c =
    let a = c.args in let h = c.requires in
    (h, c.loop-k-test.true, sym (length_part a.message.now a.start a.size h) ∙ c.loop-k.invariant.sized c.loop-k-test.true)

pub returns-then-is_name : goal.returns-then-is_name
returns-then-is_name c =
    let l = c.loop-k in
    found_name _ l.k l.invariant c.loop-k-test.true (sym c.is_name.ensures ∙ c.if-is_name.true)

pub loop-k-smaller : goal.loop-k-smaller
loop-k-smaller c = let l = next-later c.loop-k.k c.loop-k-test.true in omega arith

pub loop-k-preserved : goal.loop-k-preserved
loop-k-preserved c =
    let l = c.loop-k in
    other_name _ l.k l.invariant c.loop-k-test.true (sym c.is_name.ensures ∙ c.if-is_name.false)

pub returns : goal.returns
returns c = let l = c.loop-k in none_left _ l.k l.invariant (omega arith)
