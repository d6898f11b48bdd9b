-- `numbers::read_unsigned` meets its contract. The loop's invariant: `number` is the number of the bytes passed, so it is below 256 to
-- their count. Assumes nothing.
use mathlib.Core.Path.{◌≡◌, sym, ap, ◌∙◌}
use Prim.Native.Nat.{ℕ, ◌+◌, ◌*◌, ◌-◌, ◌<◌}
use native.Mathlib.Omega.{arith}
use lib.Dec.{lit<}
use mathlib.Core.List.{List}
use lib.ListN.{length, get_or, take, drop, length-take, length-drop}
use Rattle.std.specs.Prelude.{Ok}
use Rattle.slices.specs.Parts.{part}
use Rattle.slices.proofs.Parts.{reaches-le, get_d_part, length_part}
use Rattle.numbers.specs.BigEndian.{big_endian}
use Rattle.numbers.proofs.BigEndian.{big-none, big-part, load-room, load-next}
use Rattle.numbers.proofs.Access.{width-most, unsigned-number}
use Rattle.numbers.proofs.read_unsigned.Goals as goal

pub loop-byte-init : goal.loop-byte-init
loop-byte-init c =
    let a = c.args in record {
      lies = record {
        width = sym c.is_width.ensures ∙ c.if-not-is_width.false;
        inside = reaches-le a.bytes.now a.at a.width (sym c.in_bounds.ensures ∙ c.if-not-in_bounds.false);
      };
      read = sym (big-none a.bytes.now a.at);
      bound = lit< tt;
    }

-- the part that the loop goes over has `width` bytes
size : (at k : ℕ) → at + k - at ≡ k
size at k = omega arith

-- a byte of it is one of the slice's
byte : (s : List ℕ) (at k i : ℕ) → i < length (take (at + k - at) (drop at s))
    → (i < k) × (at + i < length s) × (get_or (take (at + k - at) (drop at s)) i 0 ≡ get_or s (at + i) 0)
byte s at k i h =
    let l : i < k = omega (arith, size at k, h, length-take (at + k - at) (drop at s)) in
    let m : at + i < length s = omega (arith, h, length-take (at + k - at) (drop at s), length-drop at s) in
    (l, m, rw (size at k) (get_d_part s at k i l))

pub overflow_mul-number : goal.overflow_mul-number
overflow_mul-number c =
    let a = c.args in
    let l = c.loop-byte in
    let w = byte a.bytes.now a.at a.width l.byte-index c.loop-byte-test.true in
    omega (arith, load-room l.number l.byte-index a.width l.invariant.bound w.0 (width-most a.width l.invariant.lies.width))

pub overflow_add-number : goal.overflow_add-number
overflow_add-number c =
    let a = c.args in
    let l = c.loop-byte in
    let w = byte a.bytes.now a.at a.width l.byte-index c.loop-byte-test.true in
    let b : get_or (take (a.at + a.width - a.at) (drop a.at a.bytes.now)) l.byte-index 0 < 256 =
    rw w.2 (c.type_inv.bytes (a.at + l.byte-index)).fits in
    omega (
      arith,
      b,
      load-room l.number l.byte-index a.width l.invariant.bound w.0 (width-most a.width l.invariant.lies.width),
    )

pub loop-byte-preserved : goal.loop-byte-preserved
loop-byte-preserved c =
    let a = c.args in
    let l = c.loop-byte in
    let w = byte a.bytes.now a.at a.width l.byte-index c.loop-byte-test.true in
    let b : ℕ = get_or a.bytes.now (a.at + l.byte-index) 0 in
    rw w.2 record {
      lies = l.invariant.lies;
      read = rw (big-part a.bytes.now a.at l.byte-index w.1) (ap (λ (n : ℕ). n * 256 + b) l.invariant.read);
      bound = load-next l.number b l.byte-index l.invariant.bound (c.type_inv.bytes (a.at + l.byte-index)).fits;
    }

pub returns : goal.returns
returns c =
    let a = c.args in
    let l = c.loop-byte in
    let n : length (take (a.at + a.width - a.at) (drop a.at a.bytes.now)) ≡ a.width =
    rw (size a.at a.width) (length_part a.bytes.now a.at a.width l.invariant.lies.inside) in
    let e : l.byte-index ≡ a.width = omega (arith, n, c.loop-byte-test.false, c.loop-byte.auto.byte-index-end) in
    ap Ok (l.invariant.read ∙ ap (λ (k : ℕ). big_endian (part a.bytes.now a.at k)) e)
    ∙ unsigned-number a.bytes.now a.at a.width l.invariant.lies
