-- What is packed reads back as the same value. Assumes nothing.
use Rattle.std.specs.Prelude.{ℕ, zero, suc, ◌+◌, ◌≤◌, ◌≡◌, Bool, true, false, not, ◌&&◌, List, [], ◌∷◌, ◌++◌, ltb, length}
use Rattle.std.proofs.lemmas.List.Edits.{sets}
use Rattle.numbers.specs.BigEndian.{holds}
use Rattle.numbers.specs.TwosComplement.{fits_in}
use Rattle.utf8.specs.Utf8.{utf8}
use Rattle.refusal.specs.Answer.{returned}
use Rattle.markers.specs.Value.{Value, null, boolean, integer, float, bytes, string, list, dictionary, structure, Items, no_items, item, count, Entries, no-entries, entry, count_entries, forget}
use Rattle.values.specs.Decode.{parsed, repeats, value_at, decode}
use Rattle.markers.specs.Extents.{most_open}
use Rattle.bolt.specs.Limits.{most_bytes}
use Rattle.packing.specs.Packing.{size_width, wide, string_header, pack_string, list_header, dictionary_header, structure_header, pack}

-- ---- values that have a form

-- a String's content
abbrev pub valid_text : List ℕ → Bool
valid_text v = holds 4 (length v) && utf8 v

-- there is room for one more container, and f holds of what is left
abbrev pub inside : ℕ → (ℕ → Bool) → Bool
inside zero f = false
inside (suc depth) f = f depth

-- integers of 64 bits, sizes of 32, text that is UTF-8, keys that do not come twice, room for so many open containers
unfoldable mutual
  pub packable : ℕ → Value → Bool
  packable depth null = true
  packable depth (boolean b) = true
  packable depth (integer z) = fits_in 8 z
  packable depth (float bits) = holds 8 bits
  packable depth (bytes start v) = holds 4 (length v)
  packable depth (string start v) = valid_text v
  packable depth (list vs) = inside depth (λ d. holds 4 (count vs) && packable_items d vs)
  packable depth (dictionary es) = inside depth (λ d. holds 4 (count_entries es) && packable_entries d [] es)
  packable depth (structure tag vs) = inside depth (λ d. ltb (count vs) 16 && packable_items d vs)

  pub packable_items : ℕ → Items → Bool
  packable_items depth no_items = true
  packable_items depth (item at v vs) = packable depth v && packable_items depth vs

  -- `seen` are the keys before them
  pub packable_entries : ℕ → List (List ℕ) → Entries → Bool
  packable_entries depth seen no-entries = true
  packable_entries depth seen (entry at start key place v es) =
      (valid_text key && not (repeats key seen)) && (packable depth v && packable_entries depth (key ∷ seen) es)

-- ---- the offsets of a value that is packed from `at` on
unfoldable mutual
  pub located : ℕ → Value → Value
  located at null = null
  located at (boolean b) = boolean b
  located at (integer z) = integer z
  located at (float bits) = float bits
  located at (bytes start v) = bytes (at + length (wide 0xCC (size_width (length v)) (length v))) v
  located at (string start v) = string (at + length (string_header (length v))) v
  located at (list vs) = list (located_items (at + length (list_header (count vs))) vs)
  located at (dictionary es) = dictionary (located_entries (at + length (dictionary_header (count_entries es))) es)
  located at (structure tag vs) = structure tag (located_items (at + length (structure_header tag (count vs))) vs)

  pub located_items : ℕ → Items → Items
  located_items at no_items = no_items
  located_items at (item _ v vs) = item at (located at v) (located_items (at + length (pack v)) vs)

  pub located_entries : ℕ → Entries → Entries
  located_entries at no-entries = no-entries
  located_entries at (entry _ start key place v es) =
      entry at (at + length (string_header (length key))) key (at + length (pack_string key)) (located (at + length (pack_string key)) v)
      (located_entries (at + length (pack_string key) + length (pack v)) es)

pub record RoundTrip (v : Value) : Type 0 where
  -- it is read back, whatever lies before and after it
  pub read_back : (before after : List ℕ) (depth : ℕ) → packable depth v ≡ true
      → value_at (before ++ (pack v ++ after)) depth (length before) ≡ parsed (located (length before) v) (length before + length (pack v))
  -- so it is from a buffer into which it was packed
  pub read-there : (d : List ℕ) (at depth : ℕ) → packable depth v ≡ true → at + length (pack v) ≤ length d
      → value_at (sets d at (pack v)) depth at ≡ parsed (located at v) (at + length (pack v))
  -- as a message it decodes
  pub decoded : packable most_open v ≡ true → length (pack v) ≤ most_bytes → decode (pack v) ≡ returned (located 0 v)
  -- and that is the same value, wherever it lies
  pub same : (at : ℕ) → forget (located at v) ≡ forget v
  -- so values that differ in more than offsets have forms that differ
  pub distinct : (w : Value) (depth : ℕ) → packable depth v ≡ true → packable depth w ≡ true → pack v ≡ pack w → forget v ≡ forget w

-- of every value
abbrev pub Claim : Type 0
Claim = (v : Value) → RoundTrip v
