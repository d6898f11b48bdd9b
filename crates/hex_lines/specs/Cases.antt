-- Lines at the edges. Assumes nothing.
use Rattle.std.specs.Prelude.{[], ◌∷◌, ◌≡◌, refl}
use Rattle.refusal.specs.Answer.{returned, refused}
use Rattle.hex_lines.specs.Hex.{is_digit, value_of, all_digits, is_line, to_bytes, decoding}

-- the line `C0`, and `c0`, which is none
example : decoding 1 (0x43 ∷ 0x30 ∷ []) ≡ returned (0xC0 ∷ [])
unfolding decoding is_line all_digits is_digit to_bytes value_of
example = refl

lower-case : decoding 1 (0x63 ∷ 0x30 ∷ []) ≡ refused 23 0
unfolding decoding is_line all_digits is_digit to_bytes value_of
lower-case = refl
