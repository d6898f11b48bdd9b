-- `hex_lines::value_of` meets its contract, by a test at every digit. Assumes nothing.
use native.Mathlib.Omega.{arith}
use Rattle.hex_lines.proofs.Lines.{value-bits, value-lt}
use Rattle.hex_lines.proofs.value_of.Goals as goal

pub returns : goal.returns
returns c =
    let e = value-bits c.args.digit c.requires in
    (e, omega (arith, e, value-lt c.args.digit c.requires))
