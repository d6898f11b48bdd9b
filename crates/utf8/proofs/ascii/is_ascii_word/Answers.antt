-- `utf8::ascii::is_ascii_word` meets its contract, by the law of the mask. Assumes nothing.
use Rattle.utf8.proofs.TopBits.{top_bits, masked-part}
use Rattle.utf8.proofs.ascii.is_ascii_word.Goals as goal

pub returns : goal.returns
unfolding top_bits
returns c = rw c.word_at.ensures (masked-part c.args.bytes.now c.args.at 8 (λ i. (c.type_inv.bytes i).fits) c.requires)
