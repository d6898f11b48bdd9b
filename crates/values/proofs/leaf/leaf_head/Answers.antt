-- `values::leaf::leaf_head` meets its contract. Assumes nothing.
use mathlib.Core.Path.{◌≡◌, sym, ap, ◌∙◌, subst}
use Rattle.std.proofs.Common.{rules}
use Rattle.std.specs.Prelude.{IsOk}
use Rattle.slices.specs.Parts.{part}
use Rattle.numbers.specs.BigEndian.{big_endian}
use Rattle.numbers.specs.TwosComplement.{twos}
use native.Mathlib.Omega.{arith}
use mir.Facts.{to_z-of_z}
use Rattle.values.specs.declared.head.Head.TheVariants as H
use Rattle.values.proofs.Leaves.{null-head, boolean-head, integer-head, float-head, bytes-head, string-head, boolean-size, integer-size, float_size, signed-there, unsigned-there}
use Rattle.values.proofs.leaf.leaf_head.Goals as goal

pub bounds-message-start : goal.bounds-message-start
bounds-message-start c =
    let a = c.args in
    omega (arith, boolean-size a.message.now a.kind a.start a.size c.in-Boolean.is c.requires.1, c.requires.0)

pub returns-in-Null : goal.returns-in-Null
returns-in-Null c = let a = c.args in null-head a.message.now a.kind a.start a.size c.in-Null.is

pub returns-in-Boolean : goal.returns-in-Boolean
returns-in-Boolean c = let a = c.args in boolean-head a.message.now a.kind a.start a.size c.in-Boolean.is

pub returns-in-Bytes : goal.returns-in-Bytes
returns-in-Bytes c = let a = c.args in bytes-head a.message.now a.kind a.start a.size c.in-Bytes.is c.requires.0

pub returns-in-String : goal.returns-in-String
returns-in-String c = let a = c.args in string-head a.message.now a.kind a.start a.size c.in-String.is c.requires.0

pub unwrap-requires : goal.unwrap-requires
unwrap-requires c =
    let a = c.args in
    let found = signed-there a.message.now a.start a.size c.requires.0 (integer-size a.message.now a.kind a.start a.size c.in-Integer.is c.requires.1) in
    subst IsOk (found ∙ sym c.read_signed.ensures) (search rules)

pub unwrap-requires-in-Float : goal.unwrap-requires-in-Float
unwrap-requires-in-Float c =
    let a = c.args in
    let found = unsigned-there a.message.now a.start (omega (arith, float_size a.message.now a.kind a.start a.size c.in-Float.is c.requires.1, c.requires.0)) in
    subst IsOk (found ∙ sym c.read_unsigned.ensures) (search rules)

pub returns-in-Integer : goal.returns-in-Integer
returns-in-Integer c =
    let a = c.args in
    let width = integer-size a.message.now a.kind a.start a.size c.in-Integer.is c.requires.1 in
    let found = signed-there a.message.now a.start a.size c.requires.0 width in
    let e = c.read_signed.ensures in
    let u = c.unwrap.ensures in
    let v : c.unwrap.result ≡ twos a.size (big_endian (part a.message.now a.start a.size)) = cc in
    rw (to_z-of_z (record { sfits = c.unwrap.type_inv })) (ap H.Integer v ∙ integer-head a.message.now a.kind a.start a.size c.in-Integer.is)

pub returns-in-Float : goal.returns-in-Float
returns-in-Float c =
    let a = c.args in
    let size = float_size a.message.now a.kind a.start a.size c.in-Float.is c.requires.1 in
    let found = unsigned-there a.message.now a.start (omega (arith, size, c.requires.0)) in
    let e = c.read_unsigned.ensures in
    let u = c.unwrap-in-Float.ensures in
    let v : c.unwrap-in-Float.result ≡ big_endian (part a.message.now a.start 8) = cc in
    ap H.Float v ∙ float-head a.message.now a.kind a.start a.size c.in-Float.is size
