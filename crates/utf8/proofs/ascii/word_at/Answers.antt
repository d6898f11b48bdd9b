-- `utf8::ascii::word_at` meets its contract: std's number of eight bytes is theirs. Assumes nothing.
use Rattle.std.proofs.Common.{◌≡◌, ◌+◌, ◌-◌, ap, ◌∙◌, length, arith}
use Rattle.slices.specs.Parts.{part}
use Rattle.slices.proofs.Parts.{length_part}
use Rattle.utf8.specs.Private.Ascii.{little_endian}
use Rattle.utf8.proofs.TopBits.{worth-of}
use Rattle.utf8.proofs.ascii.word_at.Goals as goal

pub returns : goal.returns
returns c =
    let a = c.args in
    let s = part a.bytes.now a.at 8 in
    let k : a.at + 8 - a.at ≡ 8 = omega arith in
    let t = rw c.unwrap.ensures at c.try_into.ensures.1 in
    let e : c.unwrap.result ≡ s = t.same ∙ ap (λ n. part a.bytes.now a.at n) k in
    let n : length c.unwrap.result ≡ 8 = ap length e ∙ length_part a.bytes.now a.at 8 c.requires in
    c.from_le_bytes.ensures ∙ worth-of c.unwrap.result 7 n ∙ ap little_endian e
