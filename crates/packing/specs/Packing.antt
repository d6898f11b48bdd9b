-- The shortest form of every value, and what the packers answer: document 01, "Values", the table and "the writer never makes one";
-- "Refusal numbers", "Writers: 22, 6, 10, 21". Assumes nothing.
use Rattle.std.specs.Prelude.{ℕ, ◌+◌, Bool, true, false, cond, ◌&&◌, List, [], ◌∷◌, ◌++◌, ltb, eqb, ℤ, pos, negsuc, length}
use Rattle.std.proofs.lemmas.List.Edits.{sets}
use Rattle.std.specs.Int.Signed.{le_z}
use Rattle.slices.specs.Parts.{reaches}
use Rattle.numbers.specs.BigEndian.{bytes_of, holds}
use Rattle.numbers.specs.TwosComplement.{bits_of, fits_in}
use Rattle.utf8.specs.Utf8.{utf8}
use Rattle.refusal.specs.Answer.{Answer, returned, refused}
use Rattle.markers.specs.Value.{Value, null, boolean, integer, float, bytes, string, list, dictionary, structure, Items, no_items, item, count, Entries, no-entries, entry, count_entries}
use Rattle.bolt.specs.Limits.{most_bytes}

-- ---- numbers behind their markers

-- the narrowest of the widths 1, 2, 4 and 8 that will do
unfoldable pub narrowest : (ℕ → Bool) → ℕ
narrowest does = cond (does 1) 1 (cond (does 2) 2 (cond (does 4) 4 8))

-- how often 1 is doubled to give a width
unfoldable pub doublings : ℕ → ℕ
doublings width = cond (eqb width 1) 0 (cond (eqb width 2) 1 (cond (eqb width 4) 2 3))

-- n in so many bytes behind its marker: the markers of a kind are in a row, by the width
abbrev pub wide : ℕ → ℕ → ℕ → List ℕ
wide row width n = (row + doublings width) ∷ bytes_of width n

-- ---- the table

-- Null: C0
abbrev pub pack_null : List ℕ
pack_null = 0xC0 ∷ []

-- False, True: C2, C3
abbrev pub pack_boolean : Bool → List ℕ
pack_boolean false = 0xC2 ∷ []
pack_boolean true = 0xC3 ∷ []

-- Float: C1 and 8 bytes
abbrev pub pack_float : ℕ → List ℕ
pack_float bits = 0xC1 ∷ bytes_of 8 bits

-- "00..7F and F0..FF (-16..-1)"
abbrev pub is_tiny : ℤ → Bool
is_tiny z = le_z (negsuc 15) z && le_z z (pos 127)

-- the bytes that an Integer takes behind a marker
abbrev pub integer_width : ℤ → ℕ
integer_width z = narrowest (λ w. fits_in w z)

-- Integer: itself; C8, C9, CA, CB with 1, 2, 4, 8 bytes, two's complement
unfoldable pub pack_integer : ℤ → List ℕ
pack_integer z = cond (is_tiny z) (bytes_of 1 (bits_of 1 z)) (wide 0xC8 (integer_width z) (bits_of (integer_width z) z))

-- the bytes that a size takes behind a marker
abbrev pub size_width : ℕ → ℕ
size_width n = narrowest (λ w. holds w n)

-- "the low four bits of a small marker are its size; the wider sizes are big-endian and unsigned"
unfoldable pub size_header : ℕ → ℕ → ℕ → List ℕ
size_header small row n = cond (ltb n 16) ((small + n) ∷ []) (wide row (size_width n) n)

-- how long that header is
abbrev pub header_length : ℕ → ℕ
header_length n = cond (ltb n 16) 1 (1 + size_width n)

-- Bytes: CC, CD, CE
abbrev pub pack_bytes : List ℕ → List ℕ
pack_bytes v = wide 0xCC (size_width (length v)) (length v) ++ v

-- String: 80..8F; D0, D1, D2
abbrev pub string_header : ℕ → List ℕ
string_header n = size_header 0x80 0xD0 n

-- a String: its header, and its bytes
abbrev pub pack_string : List ℕ → List ℕ
pack_string v = string_header (length v) ++ v

-- List: 90..9F; D4, D5, D6
abbrev pub list_header : ℕ → List ℕ
list_header n = size_header 0x90 0xD4 n

-- Dictionary: A0..AF; D8, D9, DA
abbrev pub dictionary_header : ℕ → List ℕ
dictionary_header n = size_header 0xA0 0xD8 n

-- Structure: B0..BF, then a tag byte
abbrev pub structure_header : ℕ → ℕ → List ℕ
structure_header tag n = (0xB0 + n) ∷ tag ∷ []

-- a value with all that it holds
unfoldable mutual
  pub pack : Value → List ℕ
  pack null = pack_null
  pack (boolean b) = pack_boolean b
  pack (integer z) = pack_integer z
  pack (float bits) = pack_float bits
  pack (bytes start v) = pack_bytes v
  pack (string start v) = pack_string v
  pack (list vs) = list_header (count vs) ++ pack_items vs
  pack (dictionary es) = dictionary_header (count_entries es) ++ pack_entries es
  pack (structure tag vs) = structure_header tag (count vs) ++ pack_items vs

  pub pack_items : Items → List ℕ
  pack_items no_items = []
  pack_items (item at v vs) = pack v ++ pack_items vs

  pub pack_entries : Entries → List ℕ
  pack_entries no-entries = []
  pack_entries (entry at start key place v es) = pack_string key ++ (pack v ++ pack_entries es)

-- ---- what is packed, or the refusal

-- "over 16,384 bytes gives 6, bad UTF-8 10 at place 0"
abbrev pub string_form : List ℕ → Answer (List ℕ)
string_form v = cond (ltb most_bytes (length v)) (refused 6 0) (cond (utf8 v) (returned (pack_string v)) (refused 10 0))

-- more entries than a message has bytes are too long for it, as a String is
abbrev pub dictionary_form : ℕ → Answer (List ℕ)
dictionary_form n = cond (ltb most_bytes n) (refused 6 0) (returned (dictionary_header n))

-- more fields than four bits count are too long for a Structure
abbrev pub structure_form : ℕ → ℕ → Answer (List ℕ)
structure_form tag n = cond (ltb 15 n) (refused 6 0) (returned (structure_header tag n))

-- "21 .. exactly if the whole output is longer than the buffer": what is packed stands in d from `at` on
abbrev pub fitted : List ℕ → ℕ → Answer (List ℕ) → Answer (List ℕ)
fitted d at (returned v) = cond (reaches d at (length v)) (returned v) (refused 21 0)
fitted d at (refused number place) = refused number place

-- the buffer afterwards: the bytes before and past what is packed stay
abbrev pub leaves : ℕ → List ℕ → List ℕ → List ℕ
leaves at v d = sets d at v

-- what a caller is told: the offset past what is packed
abbrev pub telling : ℕ → Answer (List ℕ) → Answer ℕ
telling at (returned v) = returned (at + length v)
telling at (refused number place) = refused number place
