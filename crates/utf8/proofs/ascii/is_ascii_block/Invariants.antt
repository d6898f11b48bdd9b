-- `utf8::ascii::is_ascii_block` meets its contract. The loop's invariant: the or of i words has no top bit
-- set exactly if their bytes are ASCII. Assumes nothing.
use mathlib.Core.Path.{◌≡◌}
use Prim.Native.Nat.{◌*◌}
use lib.Bits.{bit_and}
use lib.Dec.{eqb}
use Rattle.slices.specs.Parts.{part}
use Rattle.utf8.specs.Private.Ascii.{all_below}
use Rattle.utf8.proofs.TopBits.{top_bits}
use Rattle.utf8.proofs.ascii.is_ascii_block.Given as goal

abbrev pub invariant-loop-i : goal.invariant-loop-i
invariant-loop-i l = eqb (bit_and l.all (top_bits 8)) 0 ≡ all_below 0x80 (part l.bytes l.at (8 * l.i))
