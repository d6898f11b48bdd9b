-- `entries::view::string_at` meets its contract: by the extent that is found. Assumes nothing.
use Rattle.entries.proofs.Peeking.{none-there, leaf-text, other-text}
use Rattle.entries.proofs.view.string_at.Goals as goal

pub returns-in_err-kind : goal.returns-in_err-kind
returns-in_err-kind c = rw c.from_residual.ensures (none-there _ _ _ c.extent_at.ensures c.in_err-kind.ensures.value)

pub returns-in_default : goal.returns-in_default
returns-in_default c = other-text _ _ _ c.extent_at.ensures _ c.in_ok-kind.ensures.value _ _ _ c.in_default.is

pub returns-then-eq : goal.returns-then-eq
returns-then-eq c = leaf-text _ _ _ c.extent_at.ensures _ c.in_ok-kind.ensures.value _ _ _ c.in-Leaf.is _ c.if-eq.ensures

pub returns : goal.returns
returns c = leaf-text _ _ _ c.extent_at.ensures _ c.in_ok-kind.ensures.value _ _ _ c.in-Leaf.is _ c.if-eq.ensures
