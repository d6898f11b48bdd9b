-- `packing::put_integer` meets its contract. Assumes nothing.
use mathlib.Core.Path.{sym, ◌∙◌}
use native.Mathlib.Omega.{arith}
use lib.ListN.{length-set}
use mir.Facts.{to_z-of_z}
use Rattle.packing.proofs.Packing.{doublings-most, fits-i64, tiny-put, wide-put, length-integer}
use Rattle.packing.proofs.put_integer.Goals as goal

pub returns-then-is_tiny : goal.returns-then-is_tiny
returns-then-is_tiny c =
    let z = c.args.number in
    let f = to_z-of_z c.ranges.number in
    tiny-put z c.args.out.now c.args.at c.write_signed.result _ c.requires ((rw (to_z-of_z c.ranges.number) at (sym c.is_tiny.ensures ∙ c.if-is_tiny.true))) (rw f at c.write_signed.ensures.answer) (rw f at c.write_signed.ensures.filled)

pub overflow_add-out : goal.overflow_add-out
overflow_add-out c = omega (arith, c.doublings.ensures, doublings-most c.integer_width-width.result)

pub bounds-out-at : goal.bounds-out-at
bounds-out-at c = omega (arith, c.requires, length-integer c.args.number ((rw (to_z-of_z c.ranges.number) at (sym c.is_tiny.ensures ∙ c.if-is_tiny.false))))

pub shape_of-out : goal.shape_of-out
shape_of-out c = c.write_signed-2.auto.bytes ∙ simp length-set

pub returns : goal.returns
returns c =
    let z = c.args.number in
    let f = to_z-of_z c.ranges.number in
    let w = rw f at c.integer_width-width.ensures in
    wide-put z c.args.out.now c.args.at c.write_signed-2.result _ c.requires c.integer_width-width.result w ((rw (to_z-of_z c.ranges.number) at (sym c.is_tiny.ensures ∙ c.if-is_tiny.false))) (fits-i64 z c.ranges.number)
    (rw (f, c.doublings.ensures) at c.write_signed-2.ensures.answer) (rw (f, c.doublings.ensures) at c.write_signed-2.ensures.filled)
