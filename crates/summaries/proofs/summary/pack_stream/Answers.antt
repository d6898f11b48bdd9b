-- `summaries::summary::pack_stream` meets its contract. Assumes nothing.
use mathlib.Core.Path.{ap}
use mathlib.Core.Bool.{not}
use native.Mathlib.Omega.{arith}
use Rattle.summaries.proofs.Summaries.{stream-number, stream-room, stream-packed}
use Rattle.summaries.proofs.summary.pack_stream.Goals as goal

pub overflow_add-at : goal.overflow_add-at
overflow_add-at c =
    let a = c.args in
    omega (arith, stream-room a.number a.out.now a.at _ _ c.stream_length.ensures c.in_bounds.ensures (ap not c.if-not-in_bounds.false))

pub returns : goal.returns
returns c =
    let a = c.args in
    let both = stream-packed a.number a.out.now a.at _ _ c.stream_length.ensures c.in_bounds.ensures (ap not c.if-not-in_bounds.false)
    _ _ c.pack_integer.result _ (stream-number c.ranges.number) c.copy.ensures.filled (c.pack_integer.ensures.answer, c.pack_integer.ensures.filled) in
    record { answer = both.0; filled = both.1 }
