-- What is read can be packed: the readers accept no value that has no form. Assumes nothing.
use Rattle.std.specs.Prelude.{ℕ, ◌≡◌, true, List}
use Rattle.numbers.specs.BigEndian.{Bytes}
use Rattle.refusal.specs.Answer.{returned}
use Rattle.markers.specs.Value.{Value, dictionary, Entries, no-entries, entry}
use Rattle.markers.specs.Extents.{most_open}
use Rattle.values.specs.Decode.{parsed, value_at, decode}
use Rattle.packing.specs.Packing.{pack}
use Rattle.packstream.specs.RoundTrip.{packable, located}

-- none of the entries has this key
unfoldable pub Unlike : List ℕ → Entries → Type 0
Unlike k no-entries = Unit {0}
Unlike k (entry at start key place v es) = (key ≡ k → ⊥) × Unlike k es

-- "no key comes twice in one dictionary"
unfoldable pub Distinct : Entries → Type 0
Distinct no-entries = Unit {0}
Distinct (entry at start key place v es) = Unlike key es × Distinct es

-- of all bytes
pub record Claim : Type 0 where
  -- what is read anywhere has integers and sizes in their widths, text that is UTF-8, no key twice, and no more open containers than allowed
  pub part : (s : List ℕ) (depth at end : ℕ) (v : Value) → Bytes s → value_at s depth at ≡ parsed v end → packable depth v ≡ true
  -- so has every message that is accepted
  pub message : (l : List ℕ) (v : Value) → Bytes l → decode l ≡ returned v → packable most_open v ≡ true
  -- packed, it is accepted again, as the same value (`RoundTrip.same`)
  pub again : (l : List ℕ) (v : Value) → Bytes l → decode l ≡ returned v → decode (pack v) ≡ returned (located 0 v)
  -- the keys of a Dictionary that is read all differ, wherever it lies and whatever its form
  pub keys : (s : List ℕ) (depth at end : ℕ) (es : Entries) → Bytes s → value_at s depth at ≡ parsed (dictionary es) end → Distinct es
