-- `markers::extent::leaf_span` meets its contract. Assumes nothing.
use Rattle.std.proofs.Common.{rules}
use mathlib.Core.Path.{sym}
use native.Mathlib.Omega.{arith}
use Rattle.markers.proofs.Extents.{size-ok, size-inside, leaf-unsized, leaf-short, leaf-there}
use Rattle.markers.proofs.extent.leaf_span.Goals as goal

pub returns-in_err-size : goal.returns-in_err-size
returns-in_err-size c =
    let a = c.args in
    search (rules, leaf-unsized a.message.now a.at a.marker _ (sym c.in_err-size.ensures))

pub overflow_add-start-2 : goal.overflow_add-start-2
overflow_add-start-2 c =
    let a = c.args in
    omega (arith, size-inside a.message.now a.at a.marker c.in_ok-size.size (size-ok a.at _ _ (sym c.in_ok-size.ensures)) c.requires.0 c.requires.1)

pub overflow_sub-message : goal.overflow_sub-message
overflow_sub-message c =
    let a = c.args in
    size-inside a.message.now a.at a.marker c.in_ok-size.size (size-ok a.at _ _ (sym c.in_ok-size.ensures)) c.requires.0 c.requires.1

pub returns-then-message-start : goal.returns-then-message-start
returns-then-message-start c =
    let a = c.args in
    let found = size-ok a.at _ _ (sym c.in_ok-size.ensures) in
    rw c.at.ensures (leaf-short a.message.now a.at a.marker c.in_ok-size.size found
    (omega (arith, size-inside a.message.now a.at a.marker c.in_ok-size.size found c.requires.0 c.requires.1, c.if-message-start.true)))

pub returns : goal.returns
returns c =
    let a = c.args in
    let found = size-ok a.at _ _ (sym c.in_ok-size.ensures) in
    leaf-there a.message.now a.at a.marker c.in_ok-size.size found
    (omega (arith, size-inside a.message.now a.at a.marker c.in_ok-size.size found c.requires.0 c.requires.1, c.if-message-start.false))
