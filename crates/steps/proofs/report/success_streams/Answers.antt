-- `steps::report::success_streams` meets its contract: by the request. Assumes nothing.
use mathlib.Core.Path.{◌≡◌, refl, sym, ap, ◌∙◌, subst}
use mathlib.Core.Bool.{Bool, true, false, ◌&&◌}
use mathlib.Core.List.{List}
use mathlib.Core.Logic.{⊎_elim}
use Prim.Native.Nat.{ℕ, ◌<◌, ◌≤◌}
use native.Mathlib.Omega.{arith}
use lib.ListN.{length, take}
use Rattle.bolt.specs.Requests.{RUN}
use Rattle.states.specs.declared.state.State.{State}
use Rattle.states.specs.declared.request.Request.{Request}
use Rattle.states.specs.Requests.{is, fetches, in_transaction, named}
use Rattle.states.specs.Table.{Open, is_full}
use Rattle.states.proofs.Turns.{room-for-one}
use Rattle.record.specs.Record.{open_of}
use Rattle.record.proofs.Opened.{open-length}
use Rattle.steps.specs.Private.Changes.{Laid}
use Rattle.steps.proofs.Outcomes.{fetched, run-opens, begun, others-stay}
use Rattle.steps.proofs.Removing.{laid-own, laid_more, laid-less}
use Rattle.steps.proofs.report.success_streams.Goals as goal

-- a RUN in a transaction has room for its stream
roomy : (s : State) (l : List ℕ) (n next : ℕ) (r : Request) → length l ≡ 8 → n ≤ 8 → is RUN r ≡ true → in_transaction s ≡ true → (is RUN r && is_full s (open_of l n next)) ≡ false
    → (n < 8) × (next < 65536)
roomy s l n next r long most run inside free =
    let room : (length (take n l) < 8) × (next < 65536) = room-for-one s (open_of l n next) inside (sym (ap (λ (b : Bool). b && is_full s (open_of l n next)) run) ∙ free) in
    (omega (arith, open-length l long n most), room.1)

pub returns-then-not-in_transaction : goal.returns-then-not-in_transaction
returns-then-not-in_transaction c =
    let a = c.args in
    let o = open_of a.streams.now a.opened.count a.opened.next in
    rw (c.in-Run.is, ← run-opens a.state o (sym c.if-not-in_transaction.ensures)) (laid-own a.streams.now a.opened.count c.requires.1.0 a.opened.next c.requires.0)

pub push-requires : goal.push-requires
push-requires c =
    let a = c.args in
    ((roomy a.state a.streams.now a.opened.count a.opened.next a.request c.requires.1.0 c.requires.0 (ap (is RUN) c.in-Run.is) (sym c.if-not-in_transaction.ensures) c.requires.1.1).0, c.requires.1.0)

pub overflow_add-result-in-Run : goal.overflow_add-result-in-Run
overflow_add-result-in-Run c =
    let a = c.args in
    record { fits = omega (arith, roomy a.state a.streams.now a.opened.count a.opened.next a.request c.requires.1.0 c.requires.0 (ap (is RUN) c.in-Run.is) (sym c.if-not-in_transaction.ensures) c.requires.1.1) }

pub returns-in-Discard : goal.returns-in-Discard
returns-in-Discard c =
    let a = c.args in
    let o = open_of a.streams.now a.opened.count a.opened.next in
    subst (λ (m : Open). Laid m a.streams.now c.remove-count.new.streams (record { count = c.remove-count.result; next = a.opened.next }))
    (fetched a.state o a.request (⊎_elim (λ e. ap fetches e.2) (λ e. ap fetches e.2) c.in-Discard.is))
    (laid-less a.streams.now a.opened.count a.opened.next c.remove-count.new.streams (c.number_of-number.ensures ∙ ap (λ x. named x a.opened.next) c.asked.ensures)
    (c.remove-count.ensures.left, c.remove-count.ensures.moved))

pub returns-else-not-in_transaction : goal.returns-else-not-in_transaction
returns-else-not-in_transaction c =
    let a = c.args in
    let o = open_of a.streams.now a.opened.count a.opened.next in
    rw (c.in-Run.is, ← run-opens a.state o (sym c.if-not-in_transaction.ensures))
    (laid_more a.streams.now a.opened.count c.requires.1.0 a.opened.next c.push.new.streams
    (roomy a.state a.streams.now a.opened.count a.opened.next a.request c.requires.1.0 c.requires.0 (ap (is RUN) c.in-Run.is) (sym c.if-not-in_transaction.ensures) c.requires.1.1).0 c.push.ensures)

pub returns-in-Begin : goal.returns-in-Begin
returns-in-Begin c =
    let a = c.args in
    rw (c.in-Begin.is, ← begun a.state (open_of a.streams.now a.opened.count a.opened.next)) (record { count = refl; next = refl; numbers = refl })

pub returns-in_default : goal.returns-in_default
returns-in_default c =
    let a = c.args in
    let o = open_of a.streams.now a.opened.count a.opened.next in
    subst (λ (m : Open). Laid m a.streams.now a.streams.now a.opened)
    (others-stay a.state o a.request c.in_default.not-Run c.in_default.not-Begin c.in_default.not-Discard c.in_default.not-Pull)
    (laid-own a.streams.now a.opened.count c.requires.1.0 a.opened.next c.requires.0)
