-- `markers::marker::Marker::constant` meets its contract. Assumes nothing.
use mathlib.Core.Path.{refl, ◌∙◌}
use borrow.Author.Tests.{ne_eqb}
use Rattle.markers.proofs.Markers.{by-constant}
use Rattle.markers.proofs.marker.Marker.constant.Goals as goal

pub returns-in-0 : goal.returns-in-0
returns-in-0 c = c.small.ensures ∙ by-constant c.args.low c.requires 0 c.in-0.is

pub returns-in-1 : goal.returns-in-1
returns-in-1 c = c.small-in-1.ensures ∙ by-constant c.args.low c.requires 1 c.in-1.is

pub returns-in_default : goal.returns-in_default
returns-in_default c =
    let r = c.in_default.in_default-own.rest in
    c.itself.ensures ∙ simp (ne_eqb _ _ r.0.1, ne_eqb _ _ r.1) at (by-constant c.args.low c.requires c.args.low refl)
