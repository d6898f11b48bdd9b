-- `numbers::read_signed` meets its contract. Assumes nothing.
use mathlib.Core.Path.{sym, ◌∙◌}
use Rattle.numbers.proofs.Access.{width-least, width-most, unsigned-found, lies-lt}
use Rattle.numbers.proofs.read_signed.Goals as goal

pub signed_of-requires : goal.signed_of-requires
signed_of-requires c =
    let a = c.args in
    let f = unsigned-found a.bytes.now a.at a.width _ (sym c.in_ok-read_unsigned.was ∙ c.read_unsigned.ensures) in (
      width-least _ f.1.width,
      width-most _ f.1.width,
      rw f.0 (lies-lt a.bytes.now a.at a.width (λ i. (c.type_inv.bytes i).fits) f.1),
    )
