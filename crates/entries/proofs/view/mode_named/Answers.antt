-- `entries::view::mode_named` meets its contract: by the content's size and its one byte. Assumes nothing.
use native.Mathlib.Omega.{arith}
use Rattle.entries.proofs.Viewing.{mode-size, mode-read, mode-write, mode-other}
use Rattle.entries.proofs.view.mode_named.Goals as goal

pub returns-then-size-ne1 : goal.returns-then-size-ne1
returns-then-size-ne1 c = let a = c.args in mode-size a.message.now a.start a.size c.requires c.if-size-ne1.true

pub returns-in-114 : goal.returns-in-114
returns-in-114 c = let a = c.args in mode-read a.message.now a.start a.size c.requires c.if-size-ne1.false c.in-114.is

pub returns-in-119 : goal.returns-in-119
returns-in-119 c = let a = c.args in mode-write a.message.now a.start a.size c.requires c.if-size-ne1.false c.in-119.is

pub returns-in_default : goal.returns-in_default
returns-in_default c =
    let a = c.args in
    mode-other a.message.now a.start a.size c.requires c.if-size-ne1.false (omega arith) (omega arith)
