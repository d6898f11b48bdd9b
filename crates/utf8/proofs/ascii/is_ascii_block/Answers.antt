-- `utf8::ascii::is_ascii_block` meets its contract. The loop's invariant: the or of i words has no top bit
-- set exactly if their bytes are ASCII. Assumes nothing.
use Rattle.std.proofs.Common.{◌≡◌, refl, ◌+◌, ◌*◌, arith}
use Rattle.utf8.specs.Private.Ascii.{all_below}
use Rattle.utf8.proofs.TopBits.{top_bits, masked-next}
use Rattle.utf8.proofs.ascii.is_ascii_block.Goals as goal

pub loop-i-init : goal.loop-i-init
unfolding top_bits all_below
loop-i-init c = refl

pub loop-i-preserved : goal.loop-i-preserved
loop-i-preserved c =
    let a = c.args in
    let l = c.loop-i in
    let e : 8 * (l.i + 1) ≡ 8 * l.i + 8 = omega arith in
    rw (c.word_at-all.ensures, e) (masked-next a.bytes.now a.at 8 (8 * l.i) l.all (λ j. (c.type_inv.bytes j).fits) (omega arith) l.invariant)

pub returns : goal.returns
unfolding top_bits
returns c =
    let l = c.loop-i in
    let e : l.i ≡ 8 = omega arith in
    rw e at l.invariant
