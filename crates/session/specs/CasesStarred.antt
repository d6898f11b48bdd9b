-- The starred cases of document 01's "Cases at the edges", of every layer, in one table under one statement. Assumes nothing.
use Rattle.std.specs.Prelude.{ℕ, List, [], ◌∷◌, map, ◌≡◌, refl, ℤ, pos, negsuc}
use Rattle.std.specs.Int.Count.{count_leading_zeros}
use Rattle.numbers.specs.BigEndian.{big_endian, bytes_of}
use Rattle.numbers.specs.TwosComplement.{twos, bits_of, fits_in}
use Rattle.numbers.specs.Access.{unsigned_at}
use Rattle.utf8.specs.Utf8.{utf8, sequences_from, sequence, completes}
use Rattle.refusal.specs.Answer.{Answer, returned, refused}
use Rattle.handshake.specs.Version.{keeps_alive}
use Rattle.handshake.specs.Negotiation.{negotiated, agrees}
use Rattle.framing.specs.Feed.{Reading, message, keep-alive, feed}
use Rattle.bolt.specs.Limits.{most_bytes}
use Rattle.framing.specs.Reading.{frame_of}
use Rattle.markers.specs.Value.{Value, integer, string, count, count_entries}
use Rattle.markers.specs.Marker.{marker_of, lookup}
use Rattle.values.specs.Decode.{decode, message_of, value_in, value_at, items, entries, key_at, leaf_at, leaf_value, repeats}
use Rattle.slices.specs.Equality.{same}
use Rattle.markers.specs.Extents.{key_extent_at, extent_at, leaf_span, container_extent}
use Rattle.packing.specs.Packing.{pack_integer, narrowest, doublings, size_header, pack, pack_items, pack_entries}
use Rattle.packstream.specs.RoundTrip.{located, located_items, located_entries}
use Rattle.states.specs.declared.answers.Summary.{Summary}
use Rattle.states.specs.declared.answers.Summary.TheVariants as S
use Rattle.entries.specs.Lookup.{under}
use Rattle.requests.specs.Requests.{request_of, hello, transaction, batch, run, tagged}
use Rattle.summaries.specs.Summaries.{structure_of, pack_summary}
use Rattle.requests.specs.declared.request.Request.{Request}

-- what is given to a layer
pub data Given : Type 0 where
  handshake : List ℕ → Given
  -- to Bolt 4.minor, with room for any message
  frame : ℕ → List ℕ → Given
  value : List ℕ → Given
  -- to Bolt 4.minor
  request : ℕ → List ℕ → Given
  -- to the writers
  number : ℤ → Given
  summary : Summary → Given

-- what the layer makes of it
pub data Made : Type 0 where
  -- the minor number agreed on
  version : Answer ℕ → Made
  reading : Answer Reading → Made
  decoded : Answer Value → Made
  asked : Answer Request → Made
  packed : List ℕ → Made

-- each by its layer's meaning
abbrev pub meaning : Given → Made
meaning (handshake s) = version (negotiated s)
meaning (frame minor s) = reading (frame_of (keeps_alive minor) most_bytes s)
meaning (value s) = decoded (decode s)
meaning (request minor s) = asked (request_of minor (decode s))
meaning (number z) = packed (pack_integer z)
meaning (summary s) = packed (pack_summary s)

pub record Case : Type 0 where
  pub given : Given
  pub made : Made

abbrev gives : Given → Made → Case
gives g m = record { given = g; made = m }

abbrev pub cases : List Case
cases =
    -- "Empty input: 1 as handshake, 4 as frame, 7 at 0 as value"
    gives (handshake []) (version (refused 1 0))
    ∷ gives (frame 0 []) (reading (refused 4 0))
    ∷ gives (value []) (decoded (refused 7 0))
    -- "`00 00`: 5 in 4.0, keep-alive in 4.1"
    ∷ gives (frame 0 (0x00 ∷ 0x00 ∷ [])) (reading (refused 5 0))
    ∷ gives (frame 1 (0x00 ∷ 0x00 ∷ [])) (reading (returned (keep-alive 2)))
    -- "`00 01 C0 00 00`: message `C0`, 5 consumed"
    ∷ gives (frame 0 (0x00 ∷ 0x01 ∷ 0xC0 ∷ 0x00 ∷ 0x00 ∷ [])) (reading (returned (message (0xC0 ∷ []) 5)))
    -- "`7F` is 127, `F0` -16, `C8 80` -128"
    ∷ gives (value (0x7F ∷ [])) (decoded (returned (integer (pos 127))))
    ∷ gives (value (0xF0 ∷ [])) (decoded (returned (integer (negsuc 15))))
    ∷ gives (value (0xC8 ∷ 0x80 ∷ [])) (decoded (returned (integer (negsuc 127))))
    -- "writer: 128 is `C9 00 80`, -17 is `C8 EF`"
    ∷ gives (number (pos 128)) (packed (0xC9 ∷ 0x00 ∷ 0x80 ∷ []))
    ∷ gives (number (negsuc 16)) (packed (0xC8 ∷ 0xEF ∷ []))
    -- "`EF` 8 at 0; `C0 C0` 13 at 1; `82 C3` 7 at 0"
    ∷ gives (value (0xEF ∷ [])) (decoded (refused 8 0))
    ∷ gives (value (0xC0 ∷ 0xC0 ∷ [])) (decoded (refused 13 1))
    ∷ gives (value (0x82 ∷ 0xC3 ∷ [])) (decoded (refused 7 0))
    -- "`A2 81 61 01 D0 01 61 02`: 12 at 4"
    ∷ gives (value (0xA2 ∷ 0x81 ∷ 0x61 ∷ 0x01 ∷ 0xD0 ∷ 0x01 ∷ 0x61 ∷ 0x02 ∷ [])) (decoded (refused 12 4))
    -- "`81 80` 10 at 0; `82 C3 A9` accepted"
    ∷ gives (value (0x81 ∷ 0x80 ∷ [])) (decoded (refused 10 0))
    ∷ gives (value (0x82 ∷ 0xC3 ∷ 0xA9 ∷ [])) (decoded (returned (string 1 (0xC3 ∷ 0xA9 ∷ []))))
    -- "`B1 3F A1 81 6E 00`: 16 at 5", "`B1 3F A0`: 16 at 2", with 27 and 25 for 16 (document 02, request 1)
    ∷ gives (request 0 (0xB1 ∷ 0x3F ∷ 0xA1 ∷ 0x81 ∷ 0x6E ∷ 0x00 ∷ [])) (asked (refused 27 5))
    ∷ gives (request 0 (0xB1 ∷ 0x3F ∷ 0xA0 ∷ [])) (asked (refused 25 2))
    -- "`B1 70 A1 83 71 69 64 05` is SUCCESS with qid 5"
    ∷ gives (value (0xB1 ∷ 0x70 ∷ 0xA1 ∷ 0x83 ∷ 0x71 ∷ 0x69 ∷ 0x64 ∷ 0x05 ∷ [])) (decoded (returned (located 0 (structure_of (S.Stream 5)))))
    ∷ gives (summary (S.Stream 5)) (packed (0xB1 ∷ 0x70 ∷ 0xA1 ∷ 0x83 ∷ 0x71 ∷ 0x69 ∷ 0x64 ∷ 0x05 ∷ []))
    ∷ []

pub starred : map (λ c. meaning c.given) cases ≡ map (λ c. c.made) cases
unfolding negotiated agrees frame_of feed message_of value_in value_at items entries key_at key_extent_at extent_at leaf_span container_extent leaf_at leaf_value same repeats marker_of lookup unsigned_at big_endian twos utf8 sequences_from sequence completes count_leading_zeros pack_integer narrowest doublings fits_in bits_of bytes_of size_header pack pack_items pack_entries located located_items located_entries count count_entries under hello transaction batch run tagged
starred = refl
