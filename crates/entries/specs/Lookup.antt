-- What stands under a name in a Dictionary: document 01, "Requests": "Unknown names are skipped". Assumes nothing.
use Rattle.std.specs.Prelude.{ℕ, cond, List}
use Rattle.markers.specs.Value.{Value, Entries, no-entries, entry}
use Rattle.slices.specs.Equality.{same}

-- nothing, or a value with its marker's offset
pub data Held : Type 0 where
  absent : Held
  held : ℕ → Value → Held

unfoldable pub under : Entries → List ℕ → Held
under no-entries name = absent
under (entry at start key place v es) name = cond (same key name) (held place v) (under es name)

-- what stands under each name
abbrev pub Lookup : Type 0
Lookup = List ℕ → Held
