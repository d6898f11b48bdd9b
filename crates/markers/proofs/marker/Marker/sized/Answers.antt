-- `markers::marker::Marker::sized` meets its contract. Assumes nothing.
use mathlib.Core.Path.{◌∙◌}
use Rattle.markers.proofs.Markers.{size-of-eight, size-of-fewer}
use Rattle.markers.proofs.marker.Marker.sized.Goals as goal

pub returns-then-width-eq8 : goal.returns-then-width-eq8
returns-then-width-eq8 c = let a = c.args in c.reserved.ensures ∙ size-of-eight a.kind a.width c.if-width-eq8.true

pub returns : goal.returns
returns c = let a = c.args in size-of-fewer a.kind a.width c.if-width-eq8.false
