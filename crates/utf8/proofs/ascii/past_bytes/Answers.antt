-- `utf8::ascii::past_bytes` meets its contract. The loop's invariant: i bytes of the part are ASCII. Assumes nothing.
use native.Mathlib.Omega.{arith}
use Rattle.slices.specs.Parts.{part}
use Rattle.slices.proofs.Parts.{length_part, get_d_part}
use Rattle.utf8.proofs.Runs.{run-le, run-stops, run_more}
use Rattle.utf8.proofs.ascii.past_bytes.Goals as goal

pub returns-then-bytes-start-ge128 : goal.returns-then-bytes-start-ge128
returns-then-bytes-start-ge128 c =
    let a = c.args in
    let l = c.loop-i in
    let e = get_d_part a.bytes.now a.start a.count l.i (omega arith) in
    let u = run-stops (part a.bytes.now a.start a.count) l.i (rw e c.if-bytes-start-ge128.true) in
    omega (arith, u, l.invariant)

pub loop-i-preserved : goal.loop-i-preserved
loop-i-preserved c =
    let a = c.args in
    let l = c.loop-i in
    let n = length_part a.bytes.now a.start a.count (omega arith) in
    let e = get_d_part a.bytes.now a.start a.count l.i (omega arith) in
    run_more (part a.bytes.now a.start a.count) l.i (omega (arith, n)) (rw e c.if-bytes-start-ge128.false) l.invariant

pub returns : goal.returns
returns c =
    let a = c.args in
    let s = part a.bytes.now a.start a.count in
    omega (arith, run-le s, length_part a.bytes.now a.start a.count (omega arith), c.loop-i.invariant)
