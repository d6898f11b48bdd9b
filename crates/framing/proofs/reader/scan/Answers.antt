-- `reader::scan` meets its contract. The invariants: how far the reading has come, at a header and in a run of chunks of one size.
-- Assumes nothing.
use mathlib.Core.Path.{◌≡◌, refl, sym, ap, ◌∙◌}
use Prim.Native.Nat.{ℕ, ◌+◌, ◌-◌, ◌<◌, ◌≤◌}
use native.Mathlib.Omega.{arith}
use Rattle.framing.specs.Reading.{telling}
use Rattle.framing.proofs.Scanning.{came-none, at-few, at-message, at_none, at_long, at_room, at_cut, run-came, run_inside, run-onward, run-header, run-next}
use Rattle.framing.proofs.reader.scan.Goals as goal

-- what is left of the input falls
less : {i j n : ℕ} → i < j → j ≤ n → n - j < n - i
less h k = omega arith

longer : (i n : ℕ) → i < i + (n + 2)
longer i n = omega arith

pub loop-at-init : goal.loop-at-init
loop-at-init c = record { inside = omega arith; small = omega arith; thin = omega arith; came = came-none _ _ _ }

pub returns-then-input-at-lt2 : goal.returns-then-input-at-lt2
returns-then-input-at-lt2 c = sym (ap telling (at-few c.loop-at.invariant.came c.if-input-at-lt2.true))

pub returns-then-sum-gt0 : goal.returns-then-sum-gt0
returns-then-sum-gt0 c =
    let w = c.loop-at.invariant.came in
    let n = c.size_at-size in
    sym (ap telling (at-message w (omega arith) n.ensures.0 c.if-size-eq0.true c.if-sum-gt0.true) ∙ rw w.count refl)

pub returns-then-keep_alive : goal.returns-then-keep_alive
returns-then-keep_alive c =
    let l = c.loop-at in
    let n = c.size_at-size in
    let z : l.sum ≡ 0 = omega arith in
    let e : l.at ≡ 0 = omega arith in
    sym (ap telling (at_none l.invariant.came (omega arith) n.ensures.0 c.if-size-eq0.true z) ∙ rw (e, c.if-keep_alive.true) refl)

pub returns-then-size-eq0 : goal.returns-then-size-eq0
returns-then-size-eq0 c =
    let l = c.loop-at in
    let n = c.size_at-size in
    let z : l.sum ≡ 0 = omega arith in
    let e : l.at ≡ 0 = omega arith in
    sym (ap telling (at_none l.invariant.came (omega arith) n.ensures.0 c.if-size-eq0.true z) ∙ rw (e, c.if-keep_alive.false) refl)

pub loop-sum-init : goal.loop-sum-init
loop-sum-init c =
    let l = c.loop-at.invariant in
    let n = c.size_at-size.ensures in
    record {
      onward = omega arith;
      fits = omega arith;
      size = n.0;
      narrow = n.1;
      some = c.if-size-eq0.false;
      small = l.small;
      thin = l.thin;
      came = l.came;
    }

pub returns-then-sum-size-gt-MOST_BYTES : goal.returns-then-sum-size-gt-MOST_BYTES
returns-then-sum-size-gt-MOST_BYTES c =
    let l = c.loop-sum.invariant in
    sym (ap telling (at_long l.came l.fits l.size l.some c.if-sum-size-gt-MOST_BYTES.true))

pub returns-then-room-sum : goal.returns-then-room-sum
returns-then-room-sum c =
    let l = c.loop-sum.invariant in
    sym (ap telling (at_room l.came l.fits l.size l.some c.if-sum-size-gt-MOST_BYTES.false c.if-room-sum.true))

pub returns-then-input-at : goal.returns-then-input-at
returns-then-input-at c =
    let l = c.loop-sum.invariant in
    sym (ap telling (at_cut l.came l.fits l.size l.some c.if-sum-size-gt-MOST_BYTES.false c.if-room-sum.false c.if-input-at.true))

pub returns-then-input-at-lt2-2 : goal.returns-then-input-at-lt2-2
returns-then-input-at-lt2-2 c =
    let r = c.loop-sum.invariant in
    sym (ap telling (at-few (run-came r c.if-sum-size-gt-MOST_BYTES.false c.if-room-sum.false c.if-input-at.false) c.if-input-at-lt2-2.true))

pub loop-at-smaller : goal.loop-at-smaller
loop-at-smaller c =
    let r = c.loop-sum.invariant in
    less (run-onward r c.if-sum-size-gt-MOST_BYTES.false c.if-room-sum.false c.if-input-at.false) (run_inside r c.if-sum-size-gt-MOST_BYTES.false c.if-room-sum.false c.if-input-at.false)

pub loop-at-preserved : goal.loop-at-preserved
loop-at-preserved c = run-header c.loop-sum.invariant c.if-sum-size-gt-MOST_BYTES.false c.if-room-sum.false c.if-input-at.false

pub loop-sum-smaller : goal.loop-sum-smaller
loop-sum-smaller c =
    let r = c.loop-sum.invariant in
    less (longer _ _) (run_inside r c.if-sum-size-gt-MOST_BYTES.false c.if-room-sum.false c.if-input-at.false)

pub loop-sum-preserved : goal.loop-sum-preserved
loop-sum-preserved c =
    let r = c.loop-sum.invariant in
    run-next r c.if-sum-size-gt-MOST_BYTES.false c.if-room-sum.false c.if-input-at.false c.if-input-at-lt2-2.false (sym c.if-size_at-size.false ∙ c.size_at.ensures.0)
