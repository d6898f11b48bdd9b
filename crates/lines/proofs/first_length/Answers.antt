-- `lines::first_length` meets its contract: by the first character that the closure finds. Assumes nothing.
use Rattle.std.proofs.Common.{rules, ◌≡◌, ◌≢◌, sym, ◌∙◌}
use Rattle.std.proofs.lemmas.Iterator.{YieldsList-from_slice, IsFirst-from_position}
use borrow.Author.Tests.{tests}
use Rattle.lines.proofs.Lines.{first_end}
use Rattle.lines.proofs.first_length.Goals as goal

pub returns : goal.returns
returns c =
    let s = c.args.bytes.now in
    let found =
    IsFirst-from_position _ _ c.position.result (λ b. b ≡ 0x0A) (λ b. b ≢ 0x0A) c.position.ensures.ran (YieldsList-from_slice s cc)
    (λ x q k. search (rules, tests)) (λ x q k. search (rules, tests)) in
    c.unwrap_or.ensures ∙ sym (first_end s c.position.result found)
