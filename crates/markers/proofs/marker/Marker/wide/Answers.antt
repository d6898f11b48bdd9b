-- `markers::marker::Marker::wide` meets its contract. Assumes nothing.
use mathlib.Core.Path.{refl, ◌∙◌}
use native.Mathlib.Omega.{arith}
use lib.Bits.{mask_lt}
use borrow.Author.Tests.{ne_eqb}
use Rattle.markers.proofs.Markers.{by_wide}
use Rattle.markers.proofs.marker.Marker.wide.Goals as goal

pub overflow_cast-width : goal.overflow_cast-width
overflow_cast-width c = omega (arith, mask_lt c.args.marker 2)

pub overflow_shl-width : goal.overflow_shl-width
overflow_shl-width c = omega (arith, mask_lt c.args.marker 2)

pub constant-requires : goal.constant-requires
constant-requires c = mask_lt c.args.marker 2

pub returns-in-48 : goal.returns-in-48
returns-in-48 c = c.constant.ensures ∙ by_wide c.args.marker 0x30 c.requires.0 c.requires.1 c.in-48.is

pub returns-in-50 : goal.returns-in-50
returns-in-50 c = c.small.ensures ∙ by_wide c.args.marker 0x32 c.requires.0 c.requires.1 c.in-50.is

pub returns-in-51 : goal.returns-in-51
returns-in-51 c = c.sized.ensures ∙ by_wide c.args.marker 0x33 c.requires.0 c.requires.1 c.in-51.is

pub returns-in-52 : goal.returns-in-52
returns-in-52 c = c.sized-in-52.ensures ∙ by_wide c.args.marker 0x34 c.requires.0 c.requires.1 c.in-52.is

pub returns-in-53 : goal.returns-in-53
returns-in-53 c = c.sized-in-53.ensures ∙ by_wide c.args.marker 0x35 c.requires.0 c.requires.1 c.in-53.is

pub returns-in-54 : goal.returns-in-54
returns-in-54 c = c.sized-in-54.ensures ∙ by_wide c.args.marker 0x36 c.requires.0 c.requires.1 c.in-54.is

pub returns-in_default : goal.returns-in_default
returns-in_default c =
    let r = c.in_default.in_default-own.rest in
    c.reserved.ensures
    ∙ simp (ne_eqb _ _ r.0.0.0.0.0.1, ne_eqb _ _ r.0.0.0.0.1, ne_eqb _ _ r.0.0.0.1, ne_eqb _ _ r.0.0.1, ne_eqb _ _ r.0.1, ne_eqb _ _ r.1)
    at (by_wide c.args.marker _ c.requires.0 c.requires.1 refl)
