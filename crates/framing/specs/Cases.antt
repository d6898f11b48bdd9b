-- Frames at the edges: document 01, "Cases at the edges", with some more of our own. Assumes nothing.
use Rattle.std.specs.Prelude.{true, [], ◌∷◌, ◌≡◌, refl}
use Rattle.numbers.specs.BigEndian.{big_endian, bytes_of}
use Rattle.refusal.specs.Answer.{refused}
use Rattle.framing.specs.Feed.{feed}
use Rattle.bolt.specs.Limits.{most_bytes}
use Rattle.framing.specs.Reading.{frame_of}
use Rattle.framing.specs.Chunking.{wholes, chunked}

-- the second header takes the sum over 16,384: 6, though its bytes have not come
too_long : frame_of true most_bytes (0x00 ∷ 0x01 ∷ 0xC0 ∷ 0x40 ∷ 0x00 ∷ []) ≡ refused 6 0
unfolding frame_of feed big_endian
too_long = refl

-- three bytes in chunks of two
example : chunked 2 (1 ∷ 2 ∷ 3 ∷ []) ≡ 0 ∷ 2 ∷ 1 ∷ 2 ∷ 0 ∷ 1 ∷ 3 ∷ 0 ∷ 0 ∷ []
unfolding chunked wholes bytes_of
example = refl
