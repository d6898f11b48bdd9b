-- Where the parts of a value that was read lie, for callers that walk through a message: stated here, and proved in `proofs/Placement.antt`.
-- Assumes nothing.
use Rattle.std.specs.Prelude.{◌≡◌, List, ℕ, ◌+◌, ◌-◌, ◌≤◌, ◌<◌, length, Some}
use Rattle.slices.specs.Parts.{part}
use Rattle.markers.specs.Value.{Value, null, boolean, integer, float, bytes, string, list, dictionary, structure, Items, no_items, item, Entries, no-entries, entry, first, first_entry}
use Rattle.markers.specs.Extents.{most_open}
use Rattle.values.specs.Decode.{parsed, value_at}
use Rattle.values.specs.Reading.{head_of}
use Rattle.values.specs.Walk.{peek_at, skip_at}
use Rattle.values.specs.declared.head.Head.TheVariants as H

-- with room for so many open containers, the value v is read from `at` to `end`
abbrev pub Reads : List ℕ → ℕ → ℕ → Value → ℕ → Type 0
Reads s depth at v end = value_at s depth at ≡ parsed v end

-- items lie one after another: the first at `at`, each other where the one before it ends, the last up to `end`
unfoldable pub ItemsLie : List ℕ → ℕ → ℕ → Items → ℕ → Type 0
ItemsLie s depth at no_items end = at ≡ end
ItemsLie s depth at (item place v vs) end = (place ≡ at) × (next : ℕ) × Reads s depth at v next × ItemsLie s depth next vs end

-- the content of Bytes and Strings is the part of the message that ends where they do
pub record ContentLies (s : List ℕ) (start : ℕ) (content : List ℕ) (end : ℕ) : Type 0 where
  pub bytes : part s start (length content) ≡ content
  pub ends : start + length content ≡ end
  pub inside : end ≤ length s

-- a key lies where its String does: a walk finds it
pub record KeyLies (s : List ℕ) (at start : ℕ) (key : List ℕ) (end : ℕ) : Type 0 where
  pub peeked : Some (H.String start (length key)) ≡ peek_at s at
  pub skipped : Some end ≡ skip_at s at
  pub content : ContentLies s start key end

-- entries lie one after another, each a key and the value after it
unfoldable pub EntriesLie : List ℕ → ℕ → ℕ → Entries → ℕ → Type 0
EntriesLie s depth at no-entries end = at ≡ end
EntriesLie s depth at (entry place start key after v es) end =
    (place ≡ at) × KeyLies s at start key after × (next : ℕ) × Reads s depth after v next × EntriesLie s depth next es end

-- where the parts of a value lie, by its kind: it ends at `end`, and there was room for so many open containers
abbrev pub PartsLie : List ℕ → ℕ → Value → ℕ → Type 0
PartsLie s depth null end = Unit {0}
PartsLie s depth (boolean b) end = Unit {0}
PartsLie s depth (integer z) end = Unit {0}
PartsLie s depth (float bits) end = Unit {0}
PartsLie s depth (bytes start content) end = ContentLies s start content end
PartsLie s depth (string start content) end = ContentLies s start content end
PartsLie s depth (list vs) end = ItemsLie s (depth - 1) (first vs end) vs end
PartsLie s depth (dictionary es) end = EntriesLie s (depth - 1) (first_entry es end) es end
PartsLie s depth (structure tag vs) end = ItemsLie s (depth - 1) (first vs end) vs end

-- where a value lies that is read from `at` to `end`
pub record Placement (s : List ℕ) (depth at : ℕ) (v : Value) (end : ℕ) : Type 0 where
  pub past : at < end
  pub inside : end ≤ length s
  -- a walk finds the value's head at its offset, and its end
  pub peeked : Some (head_of v end) ≡ peek_at s at
  pub skipped : Some end ≡ skip_at s at
  pub parts : PartsLie s depth v end

-- of every value that is read with room for at most 16 open containers
abbrev pub Claim : Type 0
Claim = (s : List ℕ) (depth at : ℕ) → depth ≤ most_open → (v : Value) (end : ℕ) → Reads s depth at v end → Placement s depth at v end
