-- `steps::arrive::step` meets its contract: by its opening, and the tests passed. Assumes nothing.
use mathlib.Core.Path.{sym, ◌∙◌}
use Rattle.record.specs.Record.{joined}
use Rattle.record.specs.Calls.{storing}
use Rattle.record.proofs.Standing.{kept-bounded}
use Rattle.steps.proofs.Calls.{refuses, Found, found}
use Rattle.steps.proofs.Leaving.{out_of_range_lem, at-limit, queue-full, comes-in}
use Rattle.steps.proofs.arrive.step.Goals as goal

pub returns-in-Err : goal.returns-in-Err
returns-in-Err c =
    let a = c.args in
    rw c.new.ensures (refuses (storing a.request) (joined a.control a.streams.now a.queue.now) _ c.in-Err.ensures.told)

pub returns-then-not-is_in_range : goal.returns-then-not-is_in_range
returns-then-not-is_in_range c =
    let a = c.args in
    rw c.new-then-not-is_in_range.ensures
    (out_of_range_lem (joined a.control a.streams.now a.queue.now) c.in-Ok.ensures.told c.in-Ok.ensures.sized a.request (sym c.is_in_range.ensures ∙ c.if-not-is_in_range.true))

pub returns-then-control-ge4294967295 : goal.returns-then-control-ge4294967295
returns-then-control-ge4294967295 c =
    let a = c.args in
    rw c.new-then-control-ge4294967295.ensures
    (at-limit (joined a.control a.streams.now a.queue.now) c.in-Ok.ensures.told c.in-Ok.ensures.sized a.request (sym c.is_in_range.ensures ∙ c.if-not-is_in_range.false) c.if-control-ge4294967295.true)

pub returns-then-control-ge32 : goal.returns-then-control-ge32
returns-then-control-ge32 c =
    let a = c.args in
    rw c.new-then-control-ge32.ensures
    (queue-full (joined a.control a.streams.now a.queue.now) c.in-Ok.ensures.told c.in-Ok.ensures.sized a.request (sym c.is_in_range.ensures ∙ c.if-not-is_in_range.false) c.if-control-ge4294967295.false c.if-control-ge32.true)

pub accept-requires : goal.accept-requires
accept-requires c =
    let a = c.args in
    let w = joined a.control a.streams.now a.queue.now in
    let f : Found w c.in-Ok.state = found w c.in-Ok.ensures.told in
    (record { bounds = kept-bounded w f.keeps; short = c.if-control-ge32.false; below = c.if-control-ge4294967295.false }, f.state)

pub returns : goal.returns
returns c =
    let a = c.args in
    c.accept.ensures.whatever a.streams.now c.in-Ok.ensures.sized
    ∙ comes-in (joined a.control a.streams.now a.queue.now) c.in-Ok.ensures.told c.in-Ok.ensures.sized a.request (sym c.is_in_range.ensures ∙ c.if-not-is_in_range.false) c.if-control-ge4294967295.false c.if-control-ge32.false
