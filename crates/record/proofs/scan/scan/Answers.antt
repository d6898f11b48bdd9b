-- `record::scan::scan` meets its contract: by the kind of the place that is passed. Assumes nothing.
use Rattle.std.proofs.Common.{not, sym, ap, ◌∙◌, arith}
use Rattle.std.proofs.lemmas.Bool.{or_right, ne_eqb}
use Rattle.record.specs.Ring.{place_at, is_reset}
use Rattle.record.proofs.Numbers.{both-held}
use Rattle.record.proofs.Pass.{numbers_out, pass_wrong, pass_on, flag-stays, fetching-wrong, fetching-calm, reset-right, other-wrong, other-right}
use Rattle.record.proofs.scan.scan.Goals as goal

pub returns-then-are_out_of_range : goal.returns-then-are_out_of_range
returns-then-are_out_of_range c =
    let l = c.loop in
    let g = place_at c.args.queue.now in
    let p = g l.at in
    let e = c.are_out_of_range.ensures ∙ both-held numbers_out p.n p.qid (record { sfits = omega arith }) (record { sfits = omega arith }) in
    sym
    (l.invariant
    ∙ pass_wrong l.reset g l.at c.loop-test.true
    (fetching-wrong p c.then-kind-eq-PULL.either ∙ sym e ∙ c.if-are_out_of_range.true))

pub loop-preserved-then-kind-eq-PULL : goal.loop-preserved-then-kind-eq-PULL
loop-preserved-then-kind-eq-PULL c =
    let l = c.loop in
    let g = place_at c.args.queue.now in
    let p = g l.at in
    let e = c.are_out_of_range.ensures ∙ both-held numbers_out p.n p.qid (record { sfits = omega arith }) (record { sfits = omega arith }) in
    l.invariant
    ∙ pass_on l.reset g l.at c.loop-test.true
    (fetching-wrong p c.then-kind-eq-PULL.either ∙ sym e ∙ c.if-are_out_of_range.false)
    (flag-stays l.reset p (fetching-calm p c.then-kind-eq-PULL.either)) c.behind-at.ensures

pub loop-preserved-then-kind-eq-RESET : goal.loop-preserved-then-kind-eq-RESET
loop-preserved-then-kind-eq-RESET c =
    let l = c.loop in
    let g = place_at c.args.queue.now in
    let p = g l.at in
    l.invariant
    ∙ pass_on l.reset g l.at c.loop-test.true
    (reset-right p c.if-kind-eq-RESET.true) (or_right l.reset (is_reset p.kind) (ap is_reset c.if-kind-eq-RESET.true)) c.behind-at.ensures

pub returns-then-not-is_request : goal.returns-then-not-is_request
returns-then-not-is_request c =
    let l = c.loop in
    let g = place_at c.args.queue.now in
    sym
    (l.invariant
    ∙ pass_wrong l.reset g l.at c.loop-test.true
    (other-wrong (g l.at) (ap not (sym c.is_request.ensures ∙ c.if-not-is_request.true))))

pub loop-preserved : goal.loop-preserved
loop-preserved c =
    let l = c.loop in
    let g = place_at c.args.queue.now in
    let p = g l.at in
    l.invariant
    ∙ pass_on l.reset g l.at c.loop-test.true
    (other-right p c.if-kind-eq-PULL.false c.if-kind-eq-DISCARD.false (ap not (sym c.is_request.ensures ∙ c.if-not-is_request.false)))
    (flag-stays l.reset p (ne_eqb _ _ c.if-kind-eq-RESET.false)) c.behind-at.ensures
