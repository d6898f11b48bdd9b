-- `utf8::is_utf8` meets its contract. The loop's invariant: up to `at` there are whole sequences. Assumes nothing.
use mathlib.Core.Path.{◌≡◌, ◌∙◌}
use mathlib.Core.List.{List}
use Prim.Native.Nat.{ℕ, ◌+◌, ◌≤◌, ◌<◌}
use native.Mathlib.Omega.{arith}
use lib.ListN.{length, get_or, drop}
use Rattle.utf8.specs.Private.Ascii.{ascii_run}
use Rattle.utf8.proofs.Utf8.{Checked, Leads, checked, all-checked, at-fault, past-run, leads-past-run, has-bytes, past-sequence}
use Rattle.utf8.proofs.is_utf8.Goals as goal
use Rattle.utf8.proofs.is_utf8.Goals.{then-bytes-at-lt128+else-bytes-at, else-bytes-at-lt128}

-- past the ASCII bytes, if there are some, a sequence of several has to begin
past : {s : List ℕ} {at next : ℕ} → Checked s at → next ≡ at + ascii_run (drop at s) → next < length s → Leads s next × (at ≤ next)
past r e h = (rw e (leads-past-run r (omega (arith, e, h))), omega (arith, e))

here : {s : List ℕ} {at next : ℕ} → Checked s at → at < length s → 0x80 ≤ get_or s at 0 → next ≡ at → Leads s next × (at ≤ next)
here r h high e = (rw e (record { before = r; inside = h; high = high }), omega (arith, e))

pub loop-at-init : goal.loop-at-init
loop-at-init c = checked c.args.bytes.now

pub returns-then-bytes-at : goal.returns-then-bytes-at
returns-then-bytes-at c =
    all-checked (past-run c.loop-at.invariant) (omega (arith, c.ascii_end-at.ensures, c.if-bytes-at.true))

pub sequence_at-requires : goal.sequence_at-requires
sequence_at-requires c =
    let led : Leads c.args.bytes.now c.if-bytes-at-lt128.at × (c.loop-at.at ≤ c.if-bytes-at-lt128.at) =
    elim c.if-bytes-at-lt128.branch [
      | then-bytes-at-lt128+else-bytes-at w ↦ past c.loop-at.invariant (w.at-is ∙ w.ascii_end-at.ensures) (omega (arith, w.at-is))
      | else-bytes-at-lt128 w ↦ here c.loop-at.invariant c.loop-at-test.true w.if-bytes-at-lt128.false w.at-is
    ] in
    (led.0.inside, led.0.high)

pub returns-in_default : goal.returns-in_default
returns-in_default c =
    let led : Leads c.args.bytes.now c.if-bytes-at-lt128.at × (c.loop-at.at ≤ c.if-bytes-at-lt128.at) =
    elim c.if-bytes-at-lt128.branch [
      | then-bytes-at-lt128+else-bytes-at w ↦ past c.loop-at.invariant (w.at-is ∙ w.ascii_end-at.ensures) (omega (arith, w.at-is))
      | else-bytes-at-lt128 w ↦ here c.loop-at.invariant c.loop-at-test.true w.if-bytes-at-lt128.false w.at-is
    ] in
    at-fault led.0.before led.0.inside c.in_default.ensures

pub loop-at-preserved : goal.loop-at-preserved
loop-at-preserved c =
    let led : Leads c.args.bytes.now c.if-bytes-at-lt128.at × (c.loop-at.at ≤ c.if-bytes-at-lt128.at) =
    elim c.if-bytes-at-lt128.branch [
      | then-bytes-at-lt128+else-bytes-at w ↦ past c.loop-at.invariant (w.at-is ∙ w.ascii_end-at.ensures) (omega (arith, w.at-is))
      | else-bytes-at-lt128 w ↦ here c.loop-at.invariant c.loop-at-test.true w.if-bytes-at-lt128.false w.at-is
    ] in
    past-sequence led.0.before led.0.inside c.in-Some.size c.in-Some.ensures

pub overflow_add-at : goal.overflow_add-at
overflow_add-at c = omega (arith, (loop-at-preserved c).within)

pub loop-at-smaller : goal.loop-at-smaller
loop-at-smaller c =
    let led : Leads c.args.bytes.now c.if-bytes-at-lt128.at × (c.loop-at.at ≤ c.if-bytes-at-lt128.at) =
    elim c.if-bytes-at-lt128.branch [
      | then-bytes-at-lt128+else-bytes-at w ↦ past c.loop-at.invariant (w.at-is ∙ w.ascii_end-at.ensures) (omega (arith, w.at-is))
      | else-bytes-at-lt128 w ↦ here c.loop-at.invariant c.loop-at-test.true w.if-bytes-at-lt128.false w.at-is
    ] in
    omega (arith, (loop-at-preserved c).within, has-bytes led.0.before led.0.inside c.in-Some.size c.in-Some.ensures, led.1)

pub returns : goal.returns
returns c = all-checked c.loop-at.invariant (omega arith)
