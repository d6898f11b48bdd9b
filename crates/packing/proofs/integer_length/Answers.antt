-- `packing::integer_length` meets its contract. Assumes nothing.
use mathlib.Core.Path.{sym, ap, ◌∙◌}
use Prim.Native.Nat.{ℕ, ◌+◌}
use native.Mathlib.Omega.{arith}
use mir.Facts.{to_z-of_z}
use Rattle.numbers.specs.TwosComplement.{fits_in}
use Rattle.packing.proofs.Packing.{narrowest-most, length-tiny, length-integer}
use Rattle.packing.proofs.integer_length.Goals as goal

pub returns-then-is_tiny : goal.returns-then-is_tiny
returns-then-is_tiny c = sym (length-tiny c.args.number (rw (to_z-of_z c.ranges.number) at (sym c.is_tiny.ensures ∙ c.if-is_tiny.true)))

pub overflow_add-result : goal.overflow_add-result
overflow_add-result c =
    let w = rw (to_z-of_z c.ranges.number) at c.integer_width.ensures in
    omega (arith, w, narrowest-most (λ w. fits_in w c.args.number))

pub returns-else-is_tiny : goal.returns-else-is_tiny
returns-else-is_tiny c =
    ap (λ (w : ℕ). 1 + w) (rw (to_z-of_z c.ranges.number) at c.integer_width.ensures)
    ∙ sym (length-integer c.args.number (rw (to_z-of_z c.ranges.number) at (sym c.is_tiny.ensures ∙ c.if-is_tiny.false)))
