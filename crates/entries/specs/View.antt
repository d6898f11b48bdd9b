-- The code's view of a value, as far as a request looks at it. What requests mean is said of the values themselves. Assumes nothing.
use Rattle.std.specs.Prelude.{ℕ, Bool, true, false, cond, List, length, Option, Some, None, option_map}
use Rattle.markers.specs.Value.{Value, null, boolean, integer, float, bytes, string, list, dictionary, structure, Items, no_items, item}
use Rattle.markers.specs.ByKind.{on_string}
use Rattle.markers.specs.Extents.{span}
use Rattle.slices.specs.Equality.{same}
use Rattle.entries.specs.Names as Name
use Rattle.entries.specs.Lookup.{Held, absent, held}
use Rattle.entries.specs.declared.view.Mode.{Mode}
use Rattle.entries.specs.declared.view.Mode.TheVariants as M
use Rattle.entries.specs.declared.view.View.{View}
use Rattle.entries.specs.declared.view.View.TheVariants as As
use Rattle.entries.specs.declared.view.Entry.{Entry}

abbrev pub is_string : Value → Bool
is_string = on_string (λ start content. true) false

-- "in a List, the first wrong item's" marker, where it is to be a List of Strings
unfoldable pub wrong_in : Items → Option ℕ
wrong_in no_items = None
wrong_in (item at v vs) = cond (is_string v) (wrong_in vs) (Some at)

-- "r" or "w"
abbrev pub mode_named : List ℕ → Option Mode
mode_named content = cond (same content Name.read) (Some M.Read) (cond (same content Name.write) (Some M.Write) None)

-- Null is seen as nothing
abbrev pub view_of : Value → Option View
view_of null = None
view_of (boolean b) = Some As.Other
view_of (integer z) = Some (As.Integer z)
view_of (float bits) = Some As.Other
view_of (bytes start content) = Some As.Other
view_of (string start content) = Some (As.String (span start (length content)) (mode_named content))
view_of (list vs) = Some (As.List (wrong_in vs))
view_of (dictionary es) = Some As.Dictionary
view_of (structure tag vs) = Some As.Other

-- a view at its marker's offset
abbrev pub entry_of : ℕ → View → Entry
entry_of place view = record { place = place; view = view }

-- what stands under a name, as the code has it
abbrev pub seen : Held → Option Entry
seen absent = None
seen (held place v) = option_map (entry_of place) (view_of v)
