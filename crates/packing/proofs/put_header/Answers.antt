-- `packing::put_header` meets its contract. Assumes nothing.
use mathlib.Core.Path.{◌∙◌}
use native.Mathlib.Omega.{arith}
use lib.ListN.{length-set}
use Rattle.packing.proofs.Packing.{doublings-most, small-room, small_put, wide_room, header-put}
use Rattle.packing.proofs.put_header.Goals as goal

pub bounds-out-at : goal.bounds-out-at
bounds-out-at c =
    let a = c.args in
    small-room a.small a.row a.size a.out.now a.at c.requires.2 c.if-size-lt16.true

pub returns-then-size-lt16 : goal.returns-then-size-lt16
returns-then-size-lt16 c =
    let a = c.args in
    small_put a.small a.row a.size a.out.now a.at c.requires.2 c.if-size-lt16.true

pub overflow_add-out-2 : goal.overflow_add-out-2
overflow_add-out-2 c = omega (arith, c.doublings.ensures, doublings-most c.size_width-width.result, c.requires.1)

pub bounds-out-at-2 : goal.bounds-out-at-2
bounds-out-at-2 c =
    let a = c.args in
    omega (arith, wide_room a.small a.row a.size a.out.now a.at c.requires.2 c.size_width-width.result c.size_width-width.ensures c.if-size-lt16.false)

pub shape_of-out : goal.shape_of-out
shape_of-out c = c.write_unsigned.auto.bytes ∙ simp length-set

pub returns : goal.returns
returns c =
    let a = c.args in
    header-put a.small a.row a.size a.out.now a.at c.requires.2 c.size_width-width.result c.size_width-width.ensures c.if-size-lt16.false c.write_unsigned.result _ c.ranges.size.fits
    (rw c.doublings.ensures at c.write_unsigned.ensures.answer) (rw c.doublings.ensures at c.write_unsigned.ensures.filled)
