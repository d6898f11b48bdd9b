-- `utf8::complete` meets its contract. The loop's invariant: the lead byte and so many more are read. Assumes nothing.
use Rattle.std.proofs.Common.{ℕ, ◌+◌, ◌-◌, ◌*◌, ◌%◌, ◌<◌, ◌≡◌, List, get_or, refl, sym, ap, ◌∙◌, arith}
use Rattle.slices.specs.Parts.{part}
use Rattle.slices.proofs.Parts.{get_d_part}
use Rattle.utf8.specs.Utf8.{is_continuation}
use Rattle.utf8.proofs.Sequences.{cut_off, room, no-continuation, continued, overlong, no-scalar, well-formed}
use Rattle.utf8.proofs.complete.Goals as goal
use Rattle.utf8.proofs.complete.Goals.{then-scalar-least-via-then-scalar-least, then-scalar-least-via-else-scalar-least+then-not-is_scalar}

-- a byte behind the lead byte
behind : (s : List ℕ) (b : List ℕ) (at size i : ℕ) → b ≡ part s (at + 1) (at + size - (at + 1)) → i + 1 < size → get_or s (at + (i + 1)) 0 ≡ get_or b i 0
behind s b at size i e h =
    let f : at + 1 + i ≡ at + (i + 1) = omega arith in
    sym (ap (λ l. get_or l i 0) e ∙ get_d_part s (at + 1) (at + size - (at + 1)) i (omega arith) ∙ ap (λ k. get_or s k 0) f)

pub returns-then-bytes-at : goal.returns-then-bytes-at
returns-then-bytes-at c =
    let a = c.args in
    cut_off a.bytes.now a.at a.size a.least a.bits (omega arith) (omega arith) (omega arith)

pub returns-then-not-is_continuation : goal.returns-then-not-is_continuation
returns-then-not-is_continuation c =
    let inside : c.loop-b.b-index + 1 < c.args.size = omega arith in
    no-continuation c.loop-b.invariant inside (ap is_continuation (behind _ _ _ _ _ refl inside) ∙ sym c.if-not-is_continuation.ensures)

pub shift_in-scalar-requires : goal.shift_in-scalar-requires
shift_in-scalar-requires c =
    room c.loop-b.invariant (omega arith) (omega arith)

pub loop-b-preserved : goal.loop-b-preserved
loop-b-preserved c =
    let l = c.loop-b in
    let inside : l.b-index + 1 < c.args.size = omega arith in
    let b = behind _ _ _ _ _ refl inside in
    continued l.invariant inside (ap is_continuation b ∙ sym c.if-not-is_continuation.ensures) c.shift_in-scalar.result
    (c.shift_in-scalar.ensures ∙ ap (λ x. l.scalar * 0x40 + x % 0x40) (sym b))

pub returns-then-scalar-least : goal.returns-then-scalar-least
returns-then-scalar-least c =
    let l = c.loop-b in
    elim c.then-scalar-least.branch [
      | then-scalar-least-via-then-scalar-least w ↦ overlong l.invariant (omega arith) w.if-scalar-least.true
      | then-scalar-least-via-else-scalar-least+then-not-is_scalar w ↦
          no-scalar l.invariant (omega arith) w.if-scalar-least.false (sym w.is_scalar.ensures ∙ w.if-not-is_scalar.true)
    ]

pub returns : goal.returns
returns c = well-formed c.loop-b.invariant (omega arith) c.if-scalar-least.false (sym c.if-not-is_scalar.ensures)
