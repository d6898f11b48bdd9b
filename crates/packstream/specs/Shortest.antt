-- No accepted form of a value is shorter than its packed one, and which forms of an Integer are accepted. Assumes nothing.
use Rattle.std.specs.Prelude.{ℕ, ◌+◌, ◌≤◌, ◌≡◌, true, List, ℤ, length}
use Rattle.numbers.specs.BigEndian.{bytes_of, Bytes}
use Rattle.numbers.specs.TwosComplement.{bits_of, fits_in}
use Rattle.numbers.specs.Access.{is_width}
use Rattle.refusal.specs.Answer.{returned}
use Rattle.markers.specs.Value.{Value, integer, forget}
use Rattle.values.specs.Decode.{parsed, value_at, decode}
use Rattle.packing.specs.Packing.{is_tiny, wide, pack}

pub record Shortest (v : Value) : Type 0 where
  -- of all messages that are the value, offsets aside, none is shorter
  pub message : (l : List ℕ) (w : Value) → Bytes l → decode l ≡ returned w → forget w ≡ forget v → length (pack v) ≤ length l
  -- nor is the value anywhere in one
  pub part : (s : List ℕ) (depth at end : ℕ) (w : Value) → Bytes s → value_at s depth at ≡ parsed w end → forget w ≡ forget v
      → at + length (pack v) ≤ end

-- "Integer: 00..7F and F0..FF (-16..-1); C8, C9, CA, CB with 1, 2, 4, 8 bytes, two's complement"
pub data IntegerForm (z : ℤ) : List ℕ → Type 0 where
  itself : is_tiny z ≡ true → IntegerForm z (bytes_of 1 (bits_of 1 z))
  behind : (width : ℕ) → is_width width ≡ true → fits_in width z ≡ true → IntegerForm z (wide 0xC8 width (bits_of width z))

-- these are the accepted forms, and there are no others
pub record IntegerForms (z : ℤ) (l : List ℕ) : Type 0 where
  pub accepted : IntegerForm z l → decode l ≡ returned (integer z)
  pub listed : Bytes l → decode l ≡ returned (integer z) → IntegerForm z l

-- of every value, and of every Integer and all bytes
pub record Claim : Type 0 where
  pub shortest : (v : Value) → Shortest v
  pub integer-forms : (z : ℤ) (l : List ℕ) → IntegerForms z l
