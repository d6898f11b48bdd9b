-- `numbers::read_unsigned` meets its contract: `number` is the number of the bytes passed, so it is below 256 to their count. Assumes
-- nothing.
use mathlib.Core.Path.{◌≡◌}
use Prim.Native.Nat.{◌^◌, ◌<◌}
use Rattle.slices.specs.Parts.{part}
use Rattle.numbers.specs.BigEndian.{big_endian}
use Rattle.numbers.proofs.Access.{Lies}
use Rattle.numbers.proofs.read_unsigned.Given as goal

abbrev pub invariant-loop-byte : goal.invariant-loop-byte
invariant-loop-byte l = record {
  lies : Lies l.bytes l.at l.width;
  read : l.number ≡ big_endian (part l.bytes l.at l.byte-index);
  bound : l.number < 256 ^ l.byte-index;
}
