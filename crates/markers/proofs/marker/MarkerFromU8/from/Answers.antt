-- `Marker::from` meets its contract. Assumes nothing.
use mathlib.Core.Path.{refl, ◌∙◌}
use native.Mathlib.Omega.{arith}
use lib.Bits.{mask_lt}
use borrow.Author.Tests.{ne_eqb}
use Rattle.markers.proofs.Markers.{by-split}
use Rattle.markers.proofs.marker.MarkerFromU8.from.Goals as goal

pub overflow_cast-size : goal.overflow_cast-size
overflow_cast-size c = omega (arith, mask_lt c.args.byte 4)

pub returns-in-8 : goal.returns-in-8
returns-in-8 c = c.small.ensures ∙ by-split c.args.byte 8 c.ranges.byte.fits c.in-8.is

pub returns-in-9 : goal.returns-in-9
returns-in-9 c = c.small-in-9.ensures ∙ by-split c.args.byte 9 c.ranges.byte.fits c.in-9.is

pub returns-in-10 : goal.returns-in-10
returns-in-10 c = c.small-in-10.ensures ∙ by-split c.args.byte 10 c.ranges.byte.fits c.in-10.is

pub returns-in-11 : goal.returns-in-11
returns-in-11 c = c.small-in-11.ensures ∙ by-split c.args.byte 11 c.ranges.byte.fits c.in-11.is

pub returns-in-14 : goal.returns-in-14
returns-in-14 c = c.reserved.ensures ∙ by-split c.args.byte 14 c.ranges.byte.fits c.in-14.is

pub returns-in_default : goal.returns-in_default
returns-in_default c =
    let r = c.in_default.in_default-own.rest in
    c.itself.ensures
    ∙ simp (ne_eqb _ _ r.0.0.0.0.0.0.1, ne_eqb _ _ r.0.0.0.0.0.1, ne_eqb _ _ r.0.0.0.0.1, ne_eqb _ _ r.0.0.0.1, ne_eqb _ _ r.0.0.1, ne_eqb _ _ r.0.1, ne_eqb _ _ r.1)
    at (by-split c.args.byte _ c.ranges.byte.fits refl)
