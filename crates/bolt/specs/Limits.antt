-- How long a message may be: document 01, "Frames". Assumes nothing.
use Rattle.std.specs.Prelude.{ℕ}

-- "a message has at most 16,384 bytes"
abbrev pub most_bytes : ℕ
most_bytes = 16384
