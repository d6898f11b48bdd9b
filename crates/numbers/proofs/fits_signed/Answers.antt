-- `numbers::fits_signed` meets its contract. Assumes nothing.
use mathlib.Core.Path.{sym, ◌∙◌}
use mir.Facts.{to_z-of_z}
use Rattle.numbers.proofs.TwosComplement.{fits-half}
use Rattle.numbers.proofs.fits_signed.Goals as goal

pub returns-then-is_width : goal.returns-then-is_width
returns-then-is_width c =
    let a = c.args in
    let m = rw (to_z-of_z c.ranges.number) at c.magnitude.ensures in
    rw (sym c.is_width.ensures ∙ c.if-is_width.true, m, c.largest.ensures) (fits-half a.width a.number)
