-- `numbers::signed_of` meets its contract. Assumes nothing.
use mathlib.Core.Path.{sym, ap, ◌∙◌}
use Prim.Native.Nat.{ℕ, ◌-◌, ◌^◌, ◌<◌}
use native.Mathlib.Omega.{arith}
use lib.IntN.{ℤ, negsuc}
use mir.Facts.{to_z-of_z, to_z_pos}
use mir.Syntax.{w64}
use mir.Val.{to_z, of_z}
use Rattle.numbers.proofs.I64.{neg-fits, flipped}
use Rattle.numbers.proofs.TwosComplement.{low_half, high_half}
use Rattle.numbers.proofs.signed_of.Goals as goal

pub returns-then-number-most : goal.returns-then-number-most
returns-then-number-most c =
    let l = c.largest-most.ensures in
    let h : c.args.number < 2 ^ 63 = omega arith in
    to_z_pos w64 h ∙ sym (low_half c.args.width c.args.number c.requires.2 (omega arith))

pub returns-else-number-most : goal.returns-else-number-most
returns-else-number-most c =
    let l = c.largest-most.ensures in
    let h : c.largest-most.result - c.args.number < 2 ^ 63 = omega arith in
    ap (λ (z : ℤ). to_z w64 (of_z w64 z)) (flipped h)
    ∙ to_z-of_z (neg-fits h)
    ∙ ap (λ (m : ℕ). negsuc (m - c.args.number)) l
    ∙ sym (high_half c.args.width c.args.number c.requires.2 (omega arith))
