-- `reader::copy_message` meets its contract. The invariants: what has come of the message stands in front of what the buffer held.
-- The inner loop's speaks of any such buffer, since it sees only the one that it started with. Assumes nothing.
use mathlib.Core.Path.{refl, sym, ◌∙◌}
use Prim.Native.Nat.{ℕ, ◌+◌, ◌-◌, ◌≤◌, ◌<◌}
use native.Mathlib.Nat.{le_refl}
use native.Mathlib.Omega.{arith}
use Rattle.framing.proofs.Copying.{copied_none, message-header, message-end, message-small, message-inside, message-next}
use Rattle.framing.proofs.reader.copy_message.Goals as goal

-- what is left of the input falls
less : (n : ℕ) {at first k : ℕ} → first ≤ at → at + 2 + n ≤ k → k - (at + (n + 2)) < k - first
less n h l = omega arith

pub loop-keep_alive-init : goal.loop-keep_alive-init
loop-keep_alive-init c = (refl, copied_none _ _ _)

pub size_at-size-requires : goal.size_at-size-requires
size_at-size-requires c = message-header c.loop-keep_alive.invariant.1 c.requires

pub shape_of-buffer-then-size-eq0 : goal.shape_of-buffer-then-size-eq0
shape_of-buffer-then-size-eq0 c = c.loop-keep_alive.invariant.0

pub returns-then-size-eq0 : goal.returns-then-size-eq0
returns-then-size-eq0 c = message-end c.loop-keep_alive.invariant.1 c.requires c.size_at-size.ensures.0 c.if-size-eq0.true

pub loop-size-init : goal.loop-size-init
loop-size-init c =
    let n = c.size_at-size.ensures in
    (refl, omega arith, n.0, c.if-size-eq0.false, n.1, λ d w k p. w)

pub overflow_add-at : goal.overflow_add-at
overflow_add-at c =
    let l = c.loop-keep_alive.invariant in
    let k = c.loop-size.invariant in
    let w = k.5 c.args.buffer.now l.1 l.0 c.requires in
    omega (arith, message-header w c.requires)

pub overflow_add-to : goal.overflow_add-to
overflow_add-to c =
    let l = c.loop-keep_alive.invariant in
    let k = c.loop-size.invariant in
    let w = k.5 c.args.buffer.now l.1 l.0 c.requires in
    omega (arith, message-small w c.requires k.2 k.3)

pub overflow_add-at-in-loop-size : goal.overflow_add-at-in-loop-size
overflow_add-at-in-loop-size c = omega (arith, c.loop-size.invariant.4)

pub overflow_add-at-in-loop-size-2 : goal.overflow_add-at-in-loop-size-2
overflow_add-at-in-loop-size-2 c =
    let l = c.loop-keep_alive.invariant in
    let k = c.loop-size.invariant in
    let w = k.5 c.args.buffer.now l.1 l.0 c.requires in
    omega (arith, message-inside w c.requires k.2 k.3)

pub size_at-requires : goal.size_at-requires
size_at-requires c =
    let l = c.loop-keep_alive.invariant in
    let k = c.loop-size.invariant in
    let w = k.5 c.args.buffer.now l.1 l.0 c.requires in
    message-header (message-next w c.requires k.2 k.3 (k.0 ∙ l.0)) c.requires

pub loop-keep_alive-smaller : goal.loop-keep_alive-smaller
loop-keep_alive-smaller c =
    let l = c.loop-keep_alive.invariant in
    let k = c.loop-size.invariant in
    let w = k.5 c.args.buffer.now l.1 l.0 c.requires in
    less _ k.1 (message-inside w c.requires k.2 k.3)

pub loop-keep_alive-preserved : goal.loop-keep_alive-preserved
loop-keep_alive-preserved c =
    let l = c.loop-keep_alive.invariant in
    let k = c.loop-size.invariant in
    let w = k.5 c.args.buffer.now l.1 l.0 c.requires in
    (c.copy.auto.target ∙ k.0 ∙ l.0, rw c.copy.ensures.filled (message-next w c.requires k.2 k.3 (k.0 ∙ l.0)))

pub loop-size-smaller : goal.loop-size-smaller
loop-size-smaller c =
    let l = c.loop-keep_alive.invariant in
    let k = c.loop-size.invariant in
    let w = k.5 c.args.buffer.now l.1 l.0 c.requires in
    less _ (le_refl _) (message-inside w c.requires k.2 k.3)

pub loop-size-preserved : goal.loop-size-preserved
loop-size-preserved c =
    let l = c.loop-keep_alive.invariant in
    let k = c.loop-size.invariant in
    let w = k.5 c.args.buffer.now l.1 l.0 c.requires in (
      c.copy.auto.target ∙ k.0,
      omega (arith, k.1),
      sym c.if-size_at-size.false ∙ c.size_at.ensures.0,
      k.3,
      k.4,
      λ d v e p. rw c.copy.ensures.filled (message-next (k.5 d v e p) p k.2 k.3 (k.0 ∙ e)),
    )
