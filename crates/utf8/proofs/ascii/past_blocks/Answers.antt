-- `utf8::ascii::past_blocks` meets its contract. The loop's invariant: the whole blocks from `at` on end where those from `start` on do.
-- Assumes nothing.
use mathlib.Core.Path.{refl, sym, ◌∙◌}
use Prim.Native.Nat.{◌+◌, ◌≤◌}
use native.Mathlib.Omega.{arith}
use lib.ListN.{length, drop, length-drop}
use Rattle.utf8.proofs.Runs.{run-le, not-all-run, tested, past}
use Rattle.utf8.proofs.ascii.past_blocks.Goals as goal

pub loop-at-init : goal.loop-at-init
loop-at-init c = (c.requires, refl)

pub overflow_sub-bytes : goal.overflow_sub-bytes
overflow_sub-bytes c = c.loop-at.invariant.0

pub is_ascii_block-requires : goal.is_ascii_block-requires
is_ascii_block-requires c = omega (arith, c.loop-at.invariant.0)

pub returns-then-not-is_ascii_block : goal.returns-then-not-is_ascii_block
returns-then-not-is_ascii_block c =
    let a = c.args in
    let l = c.loop-at in
    let short = not-all-run 64 (drop l.at a.bytes.now) (sym c.is_ascii_block.ensures ∙ c.if-not-is_ascii_block.true) in
    omega (arith, l.invariant.1, short)

pub loop-at-preserved : goal.loop-at-preserved
loop-at-preserved c =
    let a = c.args in
    let l = c.loop-at in
    let inside : l.at + 64 ≤ length a.bytes.now = omega (arith, l.invariant.0) in
    let whole = tested a.bytes.now l.at 64 inside (sym c.is_ascii_block.ensures ∙ c.if-not-is_ascii_block.false) in
    (inside, omega (arith, l.invariant.1, past a.bytes.now l.at 64 whole))

pub returns : goal.returns
returns c =
    let a = c.args in
    let l = c.loop-at in
    let rest = drop l.at a.bytes.now in
    omega (arith, l.invariant.1, run-le rest, length-drop l.at a.bytes.now)
