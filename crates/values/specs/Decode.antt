-- The value that a message is, or the refusal: document 01, "Values", "Checks at one value, in order". Assumes nothing.
use Rattle.std.specs.Prelude.{ℕ, zero, suc, ◌+◌, Bool, true, false, cond, ◌||◌, List, [], ◌∷◌, ltb, eqb, length, get_or, Result, Ok, Err}
use Rattle.slices.specs.Parts.{part}
use Rattle.numbers.specs.BigEndian.{big_endian}
use Rattle.numbers.specs.TwosComplement.{twos}
use Rattle.utf8.specs.Utf8.{utf8}
use Rattle.refusal.specs.Numbers.{number_of}
use Rattle.refusal.specs.Answer.{Answer, returned, refused}
use Rattle.refusal.specs.declared.Fault.{Fault}
use Rattle.refusal.specs.declared.Refusal.{Refusal}
use Rattle.refusal.specs.declared.Refusal.TheVariants.{TooLong, ValueTruncated, TooDeep, InvalidUtf8, DuplicateKey, TrailingBytes}
use Rattle.markers.specs.Value.{Value, null, boolean, integer, float, bytes, string, list, dictionary, structure, Items, no_items, item, Entries, no-entries, entry}
use Rattle.markers.specs.Marker.{is_string}
use Rattle.markers.specs.declared.kind.Leaf.TheVariants as L
use Rattle.markers.specs.declared.kind.Leaf.{Leaf}
use Rattle.markers.specs.declared.kind.Container.TheVariants as C
use Rattle.markers.specs.declared.kind.Container.{Container}
use Rattle.markers.specs.declared.extent.Extent.TheVariants as E
use Rattle.markers.specs.declared.extent.Extent.{Extent}
use Rattle.markers.specs.declared.extent.Span.{Span}
use Rattle.markers.specs.Extents.{extent_at, key_extent_at, most_open}
use Rattle.bolt.specs.Limits.{most_bytes}
use Rattle.slices.specs.Equality.{same}

-- ---- reading from left to right

-- what was read and the offset past it, or the refusal and its place
pub data Parse (A : Type 0) : Type 0 where
  parsed : A → ℕ → Parse A
  failed : Refusal → ℕ → Parse A

-- "the leftmost failure wins"
abbrev pub and_then : {A B : Type 0} → Parse A → (A → ℕ → Parse B) → Parse B
and_then (parsed a end) f = f a end
and_then (failed why place) f = failed why place

-- what was read, made into something else
abbrev pub mapped : {A B : Type 0} → (A → B) → Parse A → Parse B
mapped f (parsed a end) = parsed (f a) end
mapped f (failed why place) = failed why place

-- the value whose content is the n bytes from p on
unfoldable pub leaf_value : List ℕ → Leaf → ℕ → ℕ → Value
leaf_value s L.Null p n = null
leaf_value s L.Boolean p n = boolean (eqb (get_or s p 0) 0xC3)
leaf_value s L.Integer p n = integer (twos n (big_endian (part s p n)))
leaf_value s L.Float p n = float (big_endian (part s p n))
leaf_value s L.Bytes p n = bytes p (part s p n)
leaf_value s L.String p n = string p (part s p n)

-- only a String has to be text
abbrev pub is_text : Leaf → List ℕ → Bool
is_text k content = cond (is_string k) (utf8 content) true

-- "UTF-8 10"
unfoldable pub leaf_at : List ℕ → ℕ → Leaf → ℕ → ℕ → Parse Value
leaf_at s at k p n = cond (is_text k (part s p n)) (parsed (leaf_value s k p n) (p + n)) (failed InvalidUtf8 at)

-- n values from `at` on, each read by f
unfoldable pub items : (ℕ → Parse Value) → ℕ → ℕ → Parse Items
items f zero at = parsed no_items at
items f (suc n) at = and_then (f at) (λ v p. mapped (item at v) (items f n p))

-- one of the keys before it is the same, "comparing content and not form"
unfoldable pub repeats : List ℕ → List (List ℕ) → Bool
repeats key [] = false
repeats key (k ∷ ks) = same k key || repeats key ks

-- a key: its content's offset, and its content
pub record KeyText : Type 0 where
  pub start : ℕ
  pub content : List ℕ

-- the String's checks, "then 12"
abbrev pub key_of : List ℕ → List (List ℕ) → ℕ → Result Span Fault → Parse KeyText
key_of s seen at (Ok k) =
    cond (utf8 (part s k.start k.size))
    (cond (repeats (part s k.start k.size) seen) (failed DuplicateKey at)
    (parsed (record { start = k.start; content = part s k.start k.size }) (k.start + k.size)))
    (failed InvalidUtf8 at)
key_of s seen at (Err fault) = failed fault.refusal fault.place

-- the key at `at`; `seen` are the keys before it in this dictionary
unfoldable pub key_at : List ℕ → List (List ℕ) → ℕ → Parse KeyText
key_at s seen at = key_of s seen at (key_extent_at s at)

-- n entries from `at` on, each value read by f
unfoldable pub entries : List ℕ → (ℕ → Parse Value) → List (List ℕ) → ℕ → ℕ → Parse Entries
entries s f seen zero at = parsed no-entries at
entries s f seen (suc n) at =
    and_then (key_at s seen at) (λ k p. and_then (f p) (λ v q.
    mapped (entry at k.start k.content p v) (entries s f (k.content ∷ seen) n q)))

-- "then a tag byte, then the fields"; "tag bytes missing 7"
abbrev pub structure_at : List ℕ → (ℕ → Parse Value) → ℕ → ℕ → ℕ → Parse Value
structure_at s f at p n =
    cond (ltb p (length s)) (mapped (structure (get_or s p 0)) (items f n (p + 1))) (failed ValueTruncated at)

-- the container whose marker is at `at`, with n things in it from p on
abbrev pub container_at : List ℕ → (ℕ → Parse Value) → ℕ → Container → ℕ → ℕ → Parse Value
container_at s f at C.List p n = mapped list (items f n p)
container_at s f at C.Dictionary p n = mapped dictionary (entries s f [] n p)
container_at s f at C.Structure p n = structure_at s f at p n

-- the value at an extent; f reads what a container holds
abbrev pub value_of : List ℕ → (ℕ → Parse Value) → ℕ → Result Extent Fault → Parse Value
value_of s f at (Ok (E.Leaf k p n)) = leaf_at s at k p n
value_of s f at (Ok (E.Container k p n)) = container_at s f at k p n
value_of s f at (Err fault) = failed fault.refusal fault.place

-- the value at `at`, with room for so many open containers
unfoldable pub value_at : List ℕ → ℕ → ℕ → Parse Value
value_at s zero at = value_of s (λ p. failed TooDeep p) at (extent_at s zero at)
value_at s (suc depth) at = value_of s (λ p. value_at s depth p) at (extent_at s (suc depth) at)

-- ---- whole messages

-- a longer thing is no message: 6 at place 0, before anything else
unfoldable pub value_in : List ℕ → ℕ → ℕ → Parse Value
value_in s depth at = cond (ltb most_bytes (length s)) (failed TooLong 0) (value_at s depth at)

-- "after the value, leftover bytes are 13": the place is the first of them
abbrev pub whole : ℕ → Parse Value → Parse Value
whole size (parsed v end) = cond (eqb end size) (parsed v end) (failed TrailingBytes end)
whole size (failed why place) = failed why place

-- the message as one value
unfoldable pub message_of : List ℕ → Parse Value
message_of s = whole (length s) (value_in s most_open 0)

-- the paper's answer: the value, or the refusal by its number
abbrev pub answer_of : {A : Type 0} → Parse A → Answer A
answer_of (parsed a end) = returned a
answer_of (failed why place) = refused (number_of why) place

-- what a message is
abbrev pub decode : List ℕ → Answer Value
decode s = answer_of (message_of s)
