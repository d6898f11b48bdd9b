-- What the request reader makes of a message that was read already, by peeking at offsets and skipping values. Where the value that was
-- read lies there (values' specs/Private/Placement.antt), it is what the value's tree says. Assumes nothing.
use Rattle.std.specs.Prelude.{ℕ, zero, suc, ◌+◌, cond, List, eqb, get_or, set, replicate, Option, Some, None, option_map, option_and_then}
use Rattle.std.specs.Option.{option_map_or}
use Rattle.slices.specs.Parts.{part}
use Rattle.values.specs.Walk.{peek_at, skip_at}
use Rattle.values.specs.declared.head.Head.{Head}
use Rattle.values.specs.declared.head.Head.TheVariants as H
use Rattle.entries.specs.Numbering.{names, index_of}
use Rattle.markers.specs.Extents.{span}
use Rattle.entries.specs.View.{mode_named, entry_of}
use Rattle.markers.specs.declared.extent.Span.{Span}
use Rattle.entries.specs.declared.view.View.{View}
use Rattle.entries.specs.declared.view.View.TheVariants as As
use Rattle.entries.specs.declared.view.Entry.{Entry}
use Rattle.entries.specs.declared.Entries.{Entries}

-- ---- Strings

abbrev pub string_head : Head → Option Span
string_head H.Null = None
string_head (H.Boolean b) = None
string_head (H.Integer z) = None
string_head (H.Float bits) = None
string_head (H.Bytes start size) = None
string_head (H.String start size) = Some (span start size)
string_head (H.List first n) = None
string_head (H.Dictionary first n) = None
string_head (H.Structure tag first n) = None

-- the content of a String that was found
abbrev pub string_found : Option Head → Option Span
string_found = option_and_then string_head

-- where the first of n items from p on stands that is no String
unfoldable pub wrong_from : List ℕ → ℕ → ℕ → Option ℕ
wrong_from s zero p = None
wrong_from s (suc n) p = option_map_or (λ c. wrong_from s n (c.start + c.size)) (string_found (peek_at s p)) (Some p)

-- ---- views

-- Null is seen as nothing
abbrev pub view_head : List ℕ → Head → Option View
view_head s H.Null = None
view_head s (H.Boolean b) = Some As.Other
view_head s (H.Integer z) = Some (As.Integer z)
view_head s (H.Float bits) = Some As.Other
view_head s (H.Bytes start size) = Some As.Other
view_head s (H.String start size) = Some (As.String (span start size) (mode_named (part s start size)))
view_head s (H.List first n) = Some (As.List (wrong_from s n first))
view_head s (H.Dictionary first n) = Some As.Dictionary
view_head s (H.Structure tag first n) = Some As.Other

-- no entry stands at 0
abbrev pub view_at : List ℕ → ℕ → Option View
view_at s place = cond (eqb place 0) None (option_and_then (view_head s) (peek_at s place))

abbrev pub entry_at : List ℕ → ℕ → Option Entry
entry_at s place = option_map (entry_of place) (view_at s place)

-- ---- one walk of a Dictionary notes where the value under each known name stands, and in one more place those of the other names

abbrev pub entries_head : Head → Option Entries
entries_head H.Null = None
entries_head (H.Boolean b) = None
entries_head (H.Integer z) = None
entries_head (H.Float bits) = None
entries_head (H.Bytes start size) = None
entries_head (H.String start size) = None
entries_head (H.List first n) = None
entries_head (H.Dictionary first n) = Some (record { first = first; count = n })
entries_head (H.Structure tag first n) = None

-- the entries of a Dictionary that was found
abbrev pub entries_found : Option Head → Option Entries
entries_found = option_and_then entries_head

-- a value at `place` under a key
abbrev pub note : List ℕ → List ℕ → ℕ → List ℕ
note found key place = set found (index_of key names) place

-- n entries from p on
unfoldable pub noted_from : List ℕ → ℕ → ℕ → List ℕ → List ℕ
noted_from s zero p found = found
noted_from s (suc n) p found =
    option_map_or (λ key.
    option_map_or (λ q.
    noted_from s n q (note found (part s key.start key.size) (key.start + key.size)))
    (skip_at s (key.start + key.size)) (note found (part s key.start key.size) (key.start + key.size)))
    (string_found (peek_at s p)) found

abbrev pub nothing : List ℕ
nothing = replicate 13 0

-- what stands under a name, by what was noted
abbrev pub entry_in : List ℕ → List ℕ → List ℕ → Option Entry
entry_in s found name = entry_at s (get_or found (index_of name names) 0)
