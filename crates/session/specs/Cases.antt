-- Document 01's one run, whole, and the order of its checks: "Bench trial program". Assumes nothing.
use Rattle.std.specs.Prelude.{◌≡◌, refl, List, [], ◌∷◌, map, ℕ}
use Rattle.std.specs.Int.Count.{count_leading_zeros}
use Rattle.numbers.specs.BigEndian.{big_endian, bytes_of}
use Rattle.numbers.specs.TwosComplement.{twos}
use Rattle.numbers.specs.Access.{unsigned_at}
use Rattle.utf8.specs.Utf8.{utf8, sequences_from, sequence, completes}
use Rattle.hex_lines.specs.Hex.{is_digit, value_of, digit_of, all_digits, is_line, to_bytes, to_digits}
use Rattle.handshake.specs.Version.{among}
use Rattle.slices.specs.Equality.{same}
use Rattle.handshake.specs.Negotiation.{agrees, chosen, negotiated}
use Rattle.framing.specs.Feed.{feed}
use Rattle.bolt.specs.Limits.{most_bytes}
use Rattle.framing.specs.Reading.{frame_of}
use Rattle.markers.specs.Marker.{marker_of, lookup}
use Rattle.values.specs.Decode.{message_of, value_in, value_at, items, entries, key_at, leaf_at, leaf_value, repeats}
use Rattle.markers.specs.Extents.{key_extent_at, extent_at, leaf_span, container_extent}
use Rattle.markers.specs.Value.{count, count_entries}
use Rattle.packing.specs.Packing.{pack, pack_items, pack_entries, pack_integer, size_header, narrowest, doublings}
use Rattle.entries.specs.Lookup.{under}
use Rattle.requests.specs.Requests.{hello, transaction, batch, run, tagged}
use Rattle.states.specs.Appendix.{new_state, hands_over, handed_somewhere, works}
use Rattle.states.specs.Table.{ignores, names_open, is_full, turn_of as turn_in, success_streams, success_summary}
use Rattle.states.specs.Rules.{waiting_rule, numbers_rule, may_be_in_flight, counts_rule, state_rules, rules}
use Rattle.record.specs.Record.{bounded, named, keeps_rules}
use Rattle.session.specs.Text.{line_text, text}
use Rattle.serving.specs.Serving.{after_refusal, turn_of, serving, served}
use Rattle.session.specs.Receiving.{handshake_in, Brought, refusal, brought_in}
use Rattle.session.specs.Session.{fresh, replying, next_of, run_of}

-- the bytes of the lines that come
abbrev come : List (List ℕ)
come =
    (0x60 ∷ 0x60 ∷ 0xB0 ∷ 0x17 ∷ 0x00 ∷ 0x00 ∷ 0x01 ∷ 0x04 ∷ 0x00 ∷ 0x00 ∷ 0x00 ∷ 0x04 ∷ 0x00 ∷ 0x00 ∷ 0x00 ∷ 0x00 ∷ 0x00 ∷ 0x00 ∷ 0x00 ∷ 0x00 ∷ [])
    ∷ (0x00 ∷ 0x12 ∷ 0xB1 ∷ 0x01 ∷ 0xA1 ∷ 0x8A ∷ 0x75 ∷ 0x73 ∷ 0x65 ∷ 0x72 ∷ 0x5F ∷ 0x61 ∷ 0x67 ∷ 0x65 ∷ 0x6E ∷ 0x74 ∷ 0x83 ∷ 0x50 ∷ 0x2F ∷ 0x31 ∷ 0x00 ∷ 0x00 ∷ [])
    ∷ (0x00 ∷ 0x00 ∷ [])
    ∷ (0x00 ∷ 0x06 ∷ 0xB3 ∷ 0x10 ∷ 0x81 ∷ 0x52 ∷ 0xA0 ∷ 0xA0 ∷ 0x00 ∷ 0x00 ∷ [])
    ∷ (0x00 ∷ 0x06 ∷ 0xB1 ∷ 0x3F ∷ 0xA1 ∷ 0x81 ∷ 0x6E ∷ 0xFF ∷ 0x00 ∷ 0x00 ∷ [])
    ∷ (0x00 ∷ 0x02 ∷ 0xB0 ∷ 0x02 ∷ 0x00 ∷ 0x00 ∷ [])
    ∷ []

-- the bytes of the lines that are sent
abbrev sent : List (List ℕ)
sent =
    (0x00 ∷ 0x00 ∷ 0x01 ∷ 0x04 ∷ [])
    ∷ (0x00 ∷ 0x03 ∷ 0xB1 ∷ 0x70 ∷ 0xA0 ∷ 0x00 ∷ 0x00 ∷ [])
    ∷ (0x00 ∷ 0x03 ∷ 0xB1 ∷ 0x70 ∷ 0xA0 ∷ 0x00 ∷ 0x00 ∷ [])
    ∷ (0x00 ∷ 0x0D ∷ 0xB1 ∷ 0x70 ∷ 0xA1 ∷ 0x88 ∷ 0x68 ∷ 0x61 ∷ 0x73 ∷ 0x5F ∷ 0x6D ∷ 0x6F ∷ 0x72 ∷ 0x65 ∷ 0xC2 ∷ 0x00 ∷ 0x00 ∷ [])
    ∷ []

pub one-run : run_of fresh (map to_digits come) ≡ text sent
unfolding count_leading_zeros big_endian bytes_of twos unsigned_at utf8 sequences_from sequence completes is_digit value_of digit_of all_digits is_line to_bytes to_digits among agrees chosen negotiated feed frame_of marker_of lookup message_of value_in value_at items entries key_at key_extent_at extent_at leaf_span container_extent leaf_at leaf_value same repeats count count_entries pack pack_items pack_entries pack_integer size_header narrowest doublings under hello transaction batch run tagged new_state ignores hands_over handed_somewhere names_open is_full turn_in success_streams success_summary waiting_rule numbers_rule works may_be_in_flight counts_rule state_rules rules bounded named keeps_rules line_text text after_refusal turn_of serving served handshake_in brought_in replying next_of run_of
one-run = refl

-- "Checked in order: length and digits, handshake or frame, bytes after it (23), request": of two faults in a line the earlier one counts. One
-- digit, which is no frame either; an empty message in 4.0 with a byte after it; and no request, with a byte after it
pub in_order : ◌≡◌ {A = List Brought}
    (brought_in most_bytes 1 (0x30 ∷ []) ∷ brought_in most_bytes 0 (to_digits (0x00 ∷ 0x00 ∷ 0x00 ∷ [])) ∷ brought_in most_bytes 1 (to_digits (0x00 ∷ 0x01 ∷ 0xEF ∷ 0x00 ∷ 0x00 ∷ 0x00 ∷ [])) ∷ [])
    (refusal 23 ∷ refusal 5 ∷ refusal 23 ∷ [])
unfolding big_endian is_digit value_of digit_of all_digits is_line to_bytes to_digits feed frame_of brought_in
in_order = refl
