-- Where a value's content lies, as far as its marker and its size tell: document 01, "Values", "Checks at one value, in order". Assumes nothing.
use Rattle.std.specs.Prelude.{ℕ, ◌+◌, cond, List, ltb, eqb, length, get_or, Result, Ok, Err}
use Rattle.slices.specs.Parts.{reaches}
use Rattle.numbers.specs.Access.{unsigned_at}
use Rattle.numbers.specs.declared.ReadError.{ReadError}
use Rattle.refusal.specs.Answer.{placed}
use Rattle.refusal.specs.declared.Fault.{Fault}
use Rattle.refusal.specs.declared.Refusal.TheVariants.{ValueTruncated, ReservedMarker, TooDeep, KeyNotString}
use Rattle.markers.specs.Marker.{marker_of, is_string}
use Rattle.markers.specs.declared.kind.Leaf.{Leaf}
use Rattle.markers.specs.declared.kind.Leaf.TheVariants.{String}
use Rattle.markers.specs.declared.kind.Container.{Container}
use Rattle.markers.specs.declared.marker.Kind.TheVariants as K
use Rattle.markers.specs.declared.marker.Kind.{Kind}
use Rattle.markers.specs.declared.marker.Marker.{Marker}
use Rattle.markers.specs.declared.extent.Extent.TheVariants as E
use Rattle.markers.specs.declared.extent.Extent.{Extent}
use Rattle.markers.specs.declared.extent.Span.{Span}

-- "at most 16 containers may be open"
abbrev pub most_open : ℕ
most_open = 16

-- n bytes from p on
abbrev pub span : ℕ → ℕ → Span
span p n = record { start = p; size = n }

-- the size that a marker at `at` gives, itself or in the bytes after it
abbrev pub size_at : List ℕ → ℕ → Marker → Result ℕ ReadError
size_at s at m = cond (eqb m.width 0) (Ok m.size) (unsigned_at s (at + m.skip) m.width)

-- "size .. bytes missing 7"
abbrev pub on_size : {A : Type 0} → ℕ → Result ℕ ReadError → (ℕ → Result A Fault) → Result A Fault
on_size at (Ok n) f = f n
on_size at (Err why) f = Err (placed ValueTruncated at)

-- "content missing 7"
unfoldable pub leaf_span : List ℕ → ℕ → Marker → Result Span Fault
leaf_span s at m =
    on_size at (size_at s at m) (λ n.
    cond (reaches s (at + m.skip + m.width) n) (Ok (span (at + m.skip + m.width) n)) (Err (placed ValueTruncated at)))

-- a value of this kind whose content lies so
abbrev pub as_leaf : Leaf → Result Span Fault → Result Extent Fault
as_leaf k (Ok p) = Ok (E.Leaf k p.start p.size)
as_leaf k (Err fault) = Err fault

abbrev pub leaf_extent : List ℕ → ℕ → Leaf → Marker → Result Extent Fault
leaf_extent s at k m = as_leaf k (leaf_span s at m)

-- nothing of what a container holds is looked at
unfoldable pub container_extent : List ℕ → ℕ → Container → Marker → Result Extent Fault
container_extent s at k m = on_size at (size_at s at m) (λ n. Ok (E.Container k (at + m.skip + m.width) n))

-- "reserved 8; too deep 9", with room for so many open containers
abbrev pub kind_extent : List ℕ → ℕ → ℕ → Marker → Kind → Result Extent Fault
kind_extent s depth at m K.Reserved = Err (placed ReservedMarker at)
kind_extent s depth at m (K.Leaf k) = leaf_extent s at k m
kind_extent s depth at m (K.Container k) = cond (eqb depth 0) (Err (placed TooDeep at)) (container_extent s at k m)

-- "marker missing 7"; "for a missing marker, the message length" is its place
abbrev pub missing : List ℕ → Fault
missing s = placed ValueTruncated (length s)

-- the extent at an offset
unfoldable pub extent_at : List ℕ → ℕ → ℕ → Result Extent Fault
extent_at s depth at =
    cond (ltb at (length s))
    (kind_extent s depth at (marker_of (get_or s at 0)) (marker_of (get_or s at 0)).kind)
    (Err (missing s))

-- "at a key: 7, 8, then 11, then the String's checks"
abbrev pub key_kind_extent : List ℕ → ℕ → Marker → Kind → Result Span Fault
key_kind_extent s at m K.Reserved = Err (placed ReservedMarker at)
key_kind_extent s at m (K.Leaf k) = cond (is_string k) (leaf_span s at m) (Err (placed KeyNotString at))
key_kind_extent s at m (K.Container k) = Err (placed KeyNotString at)

-- where the content of the key at an offset lies
unfoldable pub key_extent_at : List ℕ → ℕ → Result Span Fault
key_extent_at s at =
    cond (ltb at (length s))
    (key_kind_extent s at (marker_of (get_or s at 0)) (marker_of (get_or s at 0)).kind)
    (Err (missing s))

-- ---- the code's answer in document 01's terms: the value's kind and where its content lies
pub data Content : Type 0 where
  -- so many bytes from an offset on
  leaf : Leaf → ℕ → ℕ → Content
  -- so many items, entries or fields, from an offset on
  container : Container → ℕ → ℕ → Content

abbrev pub content_of : Extent → Content
content_of (E.Leaf k start size) = leaf k start size
content_of (E.Container k start count) = container k start count

-- a key is a String
abbrev pub key_content : Span → Content
key_content p = leaf String p.start p.size
