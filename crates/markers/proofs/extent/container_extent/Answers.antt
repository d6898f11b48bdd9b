-- `markers::extent::container_extent` meets its contract. Assumes nothing.
use Rattle.std.proofs.Common.{rules}
use mathlib.Core.Path.{sym}
use native.Mathlib.Omega.{arith}
use Rattle.markers.proofs.Extents.{size-ok, size-inside, container-unsized, container-there}
use Rattle.markers.proofs.extent.container_extent.Goals as goal

pub returns-in_err-count : goal.returns-in_err-count
returns-in_err-count c =
    let a = c.args in
    search (rules, container-unsized a.message.now a.at a.marker a.kind _ (sym c.in_err-count.ensures))

pub overflow_add-start-2 : goal.overflow_add-start-2
overflow_add-start-2 c =
    let a = c.args in
    omega (arith, size-inside a.message.now a.at a.marker c.in_ok-count.count (size-ok a.at _ _ (sym c.in_ok-count.ensures)) c.requires.0 c.requires.1)

pub returns : goal.returns
returns c =
    let a = c.args in
    container-there a.message.now a.at a.marker c.in_ok-count.count (size-ok a.at _ _ (sym c.in_ok-count.ensures)) a.kind
