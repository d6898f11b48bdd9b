-- `lines::take_line` meets its contract: by whether the line ends in the block. Assumes nothing.
use Rattle.std.proofs.Common.{◌∙◌, arith}
use Rattle.lines.proofs.Lines.{line-ends, line-goes-on, ends-inside, line-held}
use Rattle.lines.proofs.take_line.Goals as goal
use Rattle.lines.proofs.take_line.Goals.{then-ended, else-ended}

pub returns-clause-taken : goal.returns-clause-taken
returns-clause-taken c =
    let s = c.args.block.now in
    let n = c.first_length-length.ensures in
    elim c.if-ended.branch [
      | then-ended w ↦ w.result-is ∙ omega (arith, n, (line-ends s (omega (arith, n, w.if-ended.true))).0)
      | else-ended w ↦ w.result-is ∙ omega (arith, n, (line-goes-on s (omega (arith, n, w.if-ended.false))).0)
    ]

pub returns-clause-ended : goal.returns-clause-ended
returns-clause-ended c = ends-inside c.args.block.now c.first_length-length.ensures

pub returns-clause-filled : goal.returns-clause-filled
returns-clause-filled c =
    let a = c.args in
    line-held a.held.now a.begun a.block.now c.min-at.ensures c.first_length-length.ensures c.min-kept.ensures c.copy.ensures.filled
