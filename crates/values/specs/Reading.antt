-- What the readers answer: document 01, "Values". Assumes nothing.
use Rattle.std.specs.Prelude.{ℕ, cond, List, ltb, length}
use Rattle.refusal.specs.Numbers.{number_of}
use Rattle.refusal.specs.Answer.{Answer, returned, refused}
use Rattle.markers.specs.Value.{Value, null, boolean, integer, float, bytes, string, list, dictionary, structure, count, count_entries, first, first_entry}
use Rattle.values.specs.Decode.{Parse, parsed, failed}
use Rattle.markers.specs.Extents.{most_open}
use Rattle.values.specs.declared.head.Head.TheVariants as H
use Rattle.values.specs.declared.head.Head.{Head}
use Rattle.values.specs.declared.read.Found.{Found}

-- the head of a value that ends at `end`: its kind, and what it holds or where that lies
unfoldable pub head_of : Value → ℕ → Head
head_of null end = H.Null
head_of (boolean b) end = H.Boolean b
head_of (integer z) end = H.Integer z
head_of (float bits) end = H.Float bits
head_of (bytes start content) end = H.Bytes start (length content)
head_of (string start content) end = H.String start (length content)
head_of (list vs) end = H.List (first vs end) (count vs)
head_of (dictionary es) end = H.Dictionary (first_entry es end) (count_entries es)
head_of (structure tag vs) end = H.Structure tag (first vs end) (count vs)

-- ---- what is told of a value: its head, and the offset past it
-- of this value, ending here
abbrev pub found_at : ℕ → Value → Found
found_at end v = record { head = head_of v end; end = end }

-- what is told of a message: its value ends where the message does
abbrev pub tell_message : List ℕ → Answer Value → Answer Found
tell_message s (returned v) = returned (found_at (length s) v)
tell_message s (refused number place) = refused number place

-- "at most 16 containers may be open", whatever is asked for
abbrev pub allowed : ℕ → ℕ
allowed depth = cond (ltb most_open depth) most_open depth

-- what is told of the value at an offset
abbrev pub tell_value : Parse Value → Answer Found
tell_value (parsed v end) = returned (found_at end v)
tell_value (failed why place) = refused (number_of why) place
