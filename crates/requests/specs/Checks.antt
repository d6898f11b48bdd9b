-- What a field and an entry may hold, and the complaints: document 01, "Requests"; document 02, request 1. Assumes nothing.
use Rattle.std.specs.Prelude.{ℕ, Bool, true, false, cond, ℤ, pos, negsuc, length}
use Rattle.refusal.specs.Answer.{Answer, returned, refused, and_then}
use Rattle.slices.specs.Equality.{same}
use Rattle.markers.specs.Value.{Value, Items, no_items, item}
use Rattle.entries.specs.Names as Name
use Rattle.entries.specs.Lookup.{Held, absent, held}
use Rattle.markers.specs.declared.extent.Span.{Span}
use Rattle.entries.specs.declared.view.Mode.{Mode}
use Rattle.entries.specs.declared.view.Mode.TheVariants as M
use Rattle.markers.specs.ByKind.{on_null, on_integer, on_string, on_list, on_dictionary}

-- the number of each complaint: a required entry is absent; a field or an entry is of another kind; a number or word is out of its range
pub record Complaints : Type 0 where
  pub missing : ℕ
  pub kind : ℕ
  pub range : ℕ

-- "16 becomes 25, 26 and 27"
abbrev pub complaints : Complaints
complaints = record { missing = 25; kind = 26; range = 27 }

-- "0 or more"
abbrev pub non_negative : ℤ → Bool
non_negative (pos m) = true
non_negative (negsuc m) = false

-- ---- a value and its marker's offset, which is the place where it is not what it has to be; kind comes before range
module _ (c : Complaints) where
  abbrev pub wrong_kind : {A : Type 0} → ℕ → Answer A
  wrong_kind at = refused c.kind at

  abbrev pub out_of_range : {A : Type 0} → ℕ → Answer A
  out_of_range at = refused c.range at

  -- a String: where its content lies
  abbrev pub string_at : ℕ → Value → Answer Span
  string_at at = on_string (λ start content. returned (record { start = start; size = length content })) (wrong_kind at)

  -- an Integer in a range
  abbrev pub integer_at : (ℤ → Bool) → ℕ → Value → Answer ℤ
  integer_at range at = on_integer (λ z. cond (range z) (returned z) (out_of_range at)) (wrong_kind at)

  -- "r" or "w"
  abbrev pub mode_at : ℕ → Value → Answer Mode
  mode_at at =
      on_string (λ start content. cond (same content Name.read) (returned M.Read) (cond (same content Name.write) (returned M.Write) (out_of_range at)))
      (wrong_kind at)

  -- a Dictionary: its marker
  abbrev pub dictionary_at : ℕ → Value → Answer ℕ
  dictionary_at at = on_dictionary (λ es. returned at) (wrong_kind at)

  -- a List of Strings: its marker; "in a List, the first wrong item's"
  unfoldable pub strings_in : ℕ → Items → Answer ℕ
  strings_in at no_items = returned at
  strings_in at (item place v vs) = on_string (λ start content. strings_in at vs) (wrong_kind place) v

  abbrev pub list_of_strings_at : ℕ → Value → Answer ℕ
  list_of_strings_at at = on_list (strings_in at) (wrong_kind at)

  -- ---- entries: "a known name with Null counts as absent"
  -- one that is required: where it is absent, the place is the Dictionary's marker
  abbrev pub required : {A : Type 0} → (ℕ → Value → Answer A) → ℕ → Held → Answer A
  required check at absent = refused c.missing at
  required check at (held place v) = on_null (refused c.missing at) (check place v) v

-- one that may be absent
abbrev pub optional : {A B : Type 0} → (ℕ → Value → Answer A) → B → (A → B) → Held → Answer B
optional check none some absent = returned none
optional check none some (held place v) = on_null (returned none) (and_then (check place v) (λ a. returned (some a))) v
