-- `hex_lines::is_line` meets its contract. Assumes nothing.
use mathlib.Core.Path.{sym}
use Rattle.hex_lines.proofs.Lines.{line-long, line-odd, line-even, seen_none, seen_next, seen_all}
use Rattle.hex_lines.proofs.is_line.Goals as goal
use Rattle.hex_lines.proofs.is_line.Goals.{then-line-gt-MOST_CHARACTERS-via-then-line-gt-MOST_CHARACTERS, then-line-gt-MOST_CHARACTERS-via-else-line-gt-MOST_CHARACTERS+then-line-ne0}

pub returns-then-line-gt-MOST_CHARACTERS : goal.returns-then-line-gt-MOST_CHARACTERS
returns-then-line-gt-MOST_CHARACTERS c =
    elim c.then-line-gt-MOST_CHARACTERS.branch [
      | then-line-gt-MOST_CHARACTERS-via-then-line-gt-MOST_CHARACTERS w ↦ sym (line-long _ w.if-line-gt-MOST_CHARACTERS.true)
      | then-line-gt-MOST_CHARACTERS-via-else-line-gt-MOST_CHARACTERS+then-line-ne0 w ↦ sym (line-odd _ w.if-line-gt-MOST_CHARACTERS.false w.if-line-ne0.true)
    ]

pub loop-c-init : goal.loop-c-init
loop-c-init c = seen_none _ (line-even _ c.if-line-gt-MOST_CHARACTERS.false c.if-line-ne0.false)

pub loop-c-preserved : goal.loop-c-preserved
loop-c-preserved c = let l = c.loop-c in seen_next _ l.c-index l.others c.loop-c-test.true l.invariant _ c.other_than_digit-others.ensures

pub returns : goal.returns
returns c = let l = c.loop-c in seen_all _ l.c-index l.others c.loop-c-test.false l.invariant
