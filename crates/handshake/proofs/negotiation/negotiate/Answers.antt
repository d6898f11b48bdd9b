-- `negotiation::negotiate` meets its contract. Assumes nothing.
use mathlib.Core.Path.{◌≡◌, refl, sym, ap, ◌∙◌}
use Prim.Native.Nat.{ℕ, ◌-◌, ◌+◌, ◌*◌}
use native.Mathlib.Omega.{arith}
use borrow.Author.Tests.{lt-ltb, le-ltb}
use lib.ListN.{drop}
use mathlib.Core.List.{List}
use Rattle.std.specs.Prelude.{Option}
use Rattle.slices.specs.Parts.{part}
use Rattle.handshake.specs.Version.{proposed, named_by}
use Rattle.handshake.specs.Negotiation.{negotiated, chosen, or_else}
use Rattle.handshake.proofs.Choosing.{chosen-next}
use Rattle.handshake.proofs.negotiation.negotiate.Goals as goal

pub returns-then-not-preamble_agrees : goal.returns-then-not-preamble_agrees
unfolding negotiated
returns-then-not-preamble_agrees c = simp (sym c.preamble_agrees.ensures ∙ c.if-not-preamble_agrees.true)

pub returns-then-input-lt20 : goal.returns-then-input-lt20
unfolding negotiated
returns-then-input-lt20 c = simp (sym c.preamble_agrees.ensures ∙ c.if-not-preamble_agrees.false, lt-ltb _ _ c.if-input-lt20.true)

pub loop-k-init : goal.loop-k-init
unfolding negotiated
loop-k-init c = simp (sym c.preamble_agrees.ensures ∙ c.if-not-preamble_agrees.false, le-ltb _ _ c.if-input-lt20.false)

pub returns-in-Some : goal.returns-in-Some
returns-in-Some c =
    let l = c.loop-k in
    let s : List ℕ = c.args.input.now in
    let e : _ ≡ proposed (part s (4 + 4 * l.k) 4) = ap named_by (sym c.in-Some.is) ∙ c.from_bytes.ensures ∙ ap proposed c.four_at.ensures in
    ap (λ (p : Option ℕ). or_else p (chosen (4 - (l.k + 1)) (drop (4 + 4 * (l.k + 1)) s))) e ∙ sym (l.invariant ∙ chosen-next s l.k (omega arith))

pub loop-k-preserved : goal.loop-k-preserved
loop-k-preserved c =
    let l = c.loop-k in
    let s : List ℕ = c.args.input.now in
    let e : _ ≡ proposed (part s (4 + 4 * l.k) 4) = ap named_by (sym c.in_default.is) ∙ c.from_bytes.ensures ∙ ap proposed c.four_at.ensures in
    l.invariant ∙ chosen-next s l.k (omega arith) ∙ sym (ap (λ (p : Option ℕ). or_else p (chosen (4 - (l.k + 1)) (drop (4 + 4 * (l.k + 1)) s))) e)

pub returns : goal.returns
unfolding chosen
returns c =
    let l = c.loop-k in
    let e : l.k ≡ 4 = omega arith in
    sym (l.invariant ∙ rw e refl)
