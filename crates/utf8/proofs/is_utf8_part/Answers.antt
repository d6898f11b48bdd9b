-- `utf8::is_utf8_part` meets its contract. Assumes nothing.
use Rattle.std.proofs.Common.{sym, ap, ◌∙◌}
use Rattle.slices.proofs.Parts.{part-past}
use Rattle.utf8.specs.Utf8.{utf8}
use Rattle.utf8.proofs.Utf8.{utf8_nil}
use Rattle.utf8.proofs.is_utf8_part.Goals as goal

pub returns-then-bytes-start : goal.returns-then-bytes-start
returns-then-bytes-start c =
    let a = c.args in
    sym (ap utf8 (part-past a.bytes.now a.start a.size c.if-bytes-start.true) ∙ utf8_nil)
