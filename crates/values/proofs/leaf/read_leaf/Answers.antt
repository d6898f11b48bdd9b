-- `values::leaf::read_leaf` meets its contract. Assumes nothing.
use mathlib.Core.Path.{sym, ap}
use Rattle.values.specs.Private.Steps.{step_of}
use Rattle.values.proofs.Leaves.{leaf-text, leaf-no-text}
use Rattle.values.proofs.leaf.read_leaf.Goals as goal

pub returns-then-not-is_text : goal.returns-then-not-is_text
returns-then-not-is_text c =
    let a = c.args in
    rw c.at.ensures (sym (ap step_of (leaf-no-text a.message.now a.at a.kind a.start a.size (sym c.if-not-is_text.ensures))))

pub returns : goal.returns
returns c =
    let a = c.args in
    sym (ap step_of (leaf-text a.message.now a.at a.kind a.start a.size (sym c.if-not-is_text.ensures)))
