-- Bytes survive their digits, and a line its bytes. Assumes nothing.
use Rattle.std.specs.Prelude.{ℕ, ◌≤◌, List, ◌≡◌, length}
use Rattle.numbers.specs.BigEndian.{Bytes}
use Rattle.refusal.specs.Answer.{returned}
use Rattle.hex_lines.specs.Hex.{decoding, encoding}

-- of a line and its bytes, read or written into a first buffer and then a second
pub record RoundTrip (line bytes : List ℕ) (first second : ℕ) : Type 0 where
  -- up to 20,000 bytes that were written as a line are read from it
  pub bytes_back : Bytes bytes → length bytes ≤ 20000 → encoding first bytes ≡ returned line
      → length bytes ≤ second → decoding second line ≡ returned bytes
  -- a line whose bytes were read is written of them
  pub line-back : decoding first line ≡ returned bytes → length line ≤ second → encoding second bytes ≡ returned line

-- of every line, all bytes and buffers of any size
abbrev pub Claim : Type 0
Claim = (line bytes : List ℕ) (first second : ℕ) → RoundTrip line bytes first second
