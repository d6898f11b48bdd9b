-- `values::keys::read_key` meets its contract. Assumes nothing.
use mathlib.Core.Path.{◌≡◌, sym}
use Prim.Native.Nat.{◌+◌, ◌-◌}
use native.Mathlib.Omega.{arith}
use Rattle.std.proofs.Common.{rules}
use Rattle.values.specs.Private.Keys.{keys_of}
use Rattle.values.proofs.KeySearch.{key-stopped, key-lies, key-no-text, key-repeated, key-new}
use Rattle.values.proofs.keys.read_key.Goals as goal

pub returns-in_err-key : goal.returns-in_err-key
returns-in_err-key c =
    let a = c.args in
    search (rules, key-stopped a.message.now (keys_of a.message.now a.keys.now) a.at _ c.in_err-key.ensures)

pub returns-then-not-is_utf8_part : goal.returns-then-not-is_utf8_part
returns-then-not-is_utf8_part c =
    let a = c.args in
    rw c.at.ensures (key-no-text a.message.now (keys_of a.message.now a.keys.now) a.at _ c.in_ok-key.ensures (sym c.if-not-is_utf8_part.ensures))

pub overflow_add-key : goal.overflow_add-key
overflow_add-key c =
    let a = c.args in
    omega (arith, key-lies a.message.now (keys_of a.message.now a.keys.now) a.at _ c.in_ok-key.ensures)

pub slice_bounds-repeats-end : goal.slice_bounds-repeats-end
slice_bounds-repeats-end c =
    let a = c.args in
    key-lies a.message.now (keys_of a.message.now a.keys.now) a.at _ c.in_ok-key.ensures

pub returns-then-repeats : goal.returns-then-repeats
returns-then-repeats c =
    let a = c.args in
    let k = c.in_ok-key.key in
    let size : k.start + k.size - k.start ≡ k.size = omega arith in
    rw c.at-then-repeats.ensures (key-repeated a.message.now (keys_of a.message.now a.keys.now) a.at _ c.in_ok-key.ensures (sym c.if-not-is_utf8_part.ensures) (rw size at (sym c.if-repeats.ensures)))

pub returns : goal.returns
returns c =
    let a = c.args in
    let k = c.in_ok-key.key in
    let size : k.start + k.size - k.start ≡ k.size = omega arith in
    key-new a.message.now (keys_of a.message.now a.keys.now) a.at _ c.in_ok-key.ensures (sym c.if-not-is_utf8_part.ensures) (rw size at (sym c.if-repeats.ensures))
