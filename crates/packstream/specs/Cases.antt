-- Values at the edges, in one table under one statement; those that document 01 stars stand with the other starred ones, in session. Assumes nothing.
use Rattle.std.specs.Prelude.{◌≡◌, refl, true, List, [], ◌∷◌, ◌++◌, map, ℕ, pos, negsuc, replicate}
use Rattle.std.specs.Int.Count.{count_leading_zeros}
use Rattle.numbers.specs.BigEndian.{big_endian}
use Rattle.numbers.specs.TwosComplement.{twos}
use Rattle.numbers.specs.Access.{unsigned_at}
use Rattle.utf8.specs.Utf8.{utf8, sequences_from, sequence, completes}
use Rattle.refusal.specs.Answer.{Answer, returned, refused}
use Rattle.markers.specs.Value.{Value, boolean, integer, float, string, dictionary, no-entries, entry}
use Rattle.markers.specs.Marker.{marker_of, lookup}
use Rattle.values.specs.Decode.{decode, message_of, value_in, value_at, items, entries, key_at, leaf_at, leaf_value, repeats}
use Rattle.slices.specs.Equality.{same}
use Rattle.markers.specs.Extents.{key_extent_at, extent_at, leaf_span, container_extent}

record Case : Type 0 where
  message : List ℕ
  answer : Answer Value

abbrev is : List ℕ → Answer Value → Case
is m a = record { message = m; answer = a }

abbrev cases : List Case
cases =
    -- longer forms than needed, and the 64 bits of a Float
    is (0xC9 ∷ 0xFF ∷ 0xFF ∷ []) (returned (integer (negsuc 0)))
    ∷ is (0xCA ∷ 0x00 ∷ 0x00 ∷ 0x00 ∷ 0x80 ∷ []) (returned (integer (pos 128)))
    ∷ is (0xD1 ∷ 0x00 ∷ 0x01 ∷ 0x61 ∷ []) (returned (string 3 (0x61 ∷ [])))
    ∷ is (0xC1 ∷ 0x3F ∷ 0xF0 ∷ 0 ∷ 0 ∷ 0 ∷ 0 ∷ 0 ∷ 0 ∷ []) (returned (float 0x3FF0000000000000))
    -- the same key in two dictionaries, one inside the other
    ∷ is (0xA1 ∷ 0x81 ∷ 0x61 ∷ 0xA1 ∷ 0x81 ∷ 0x61 ∷ 0xC3 ∷ [])
    (returned (dictionary (entry 1 2 (0x61 ∷ []) 3 (dictionary (entry 4 5 (0x61 ∷ []) 6 (boolean true) no-entries)) no-entries)))
    -- a missing marker's place is the message length; a key that is no String; a tag that is missing
    ∷ is (0x92 ∷ 0x01 ∷ []) (refused 7 2)
    ∷ is (0xA1 ∷ 0x90 ∷ []) (refused 11 1)
    ∷ is (0xB0 ∷ []) (refused 7 0)
    -- depth is checked before size, and a seventeenth container is refused even if empty
    ∷ is (replicate 16 0x91) (refused 7 16)
    ∷ is (replicate 16 0x91 ++ 0x90 ∷ []) (refused 9 16)
    ∷ is (replicate 16 0x91 ++ 0xD4 ∷ []) (refused 9 16)
    -- sizes claimed with their content missing
    ∷ is (0xCE ∷ 0xFF ∷ 0xFF ∷ 0xFF ∷ 0xFF ∷ []) (refused 7 0)
    ∷ is (0xD6 ∷ 0xFF ∷ 0xFF ∷ 0xFF ∷ 0xFF ∷ []) (refused 7 5)
    ∷ []

pub hold : map (λ c. decode c.message) cases ≡ map (λ c. c.answer) cases
unfolding message_of value_in value_at items entries key_at key_extent_at extent_at leaf_span container_extent leaf_at leaf_value same repeats marker_of lookup unsigned_at big_endian twos utf8 sequences_from sequence completes count_leading_zeros
hold = refl
