-- What is written: document 01, "Bench trial program": "It writes one line for each thing sent", in hexadecimal; "a line ends with 0A".
-- Assumes nothing.
use Rattle.std.specs.Prelude.{ℕ, List, [], ◌∷◌, ◌++◌}
use Rattle.hex_lines.specs.Hex.{to_digits}

-- a line: the digits of its bytes, and its end
unfoldable pub line_text : List ℕ → List ℕ
line_text bytes = to_digits bytes ++ (0x0A ∷ [])

-- lines one after the other
unfoldable pub text : List (List ℕ) → List ℕ
text [] = []
text (bytes ∷ lines) = line_text bytes ++ text lines
