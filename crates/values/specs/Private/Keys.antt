-- What the dictionary readers keep of the keys of the open dictionaries, so that no key's head is read twice. Assumes nothing.
use Rattle.std.specs.Prelude.{ℕ, ◌+◌, ◌*◌, ◌≤◌, List, map, reverse, length, Result, Ok, Err, All}
use Rattle.slices.specs.Parts.{part}
use Rattle.refusal.specs.Answer.{placed}
use Rattle.refusal.specs.declared.Fault.{Fault}
use Rattle.markers.specs.Extents.{span}
use Rattle.markers.specs.declared.extent.Span.{Span}
use Rattle.bolt.specs.Limits.{most_bytes}
use Rattle.values.specs.Decode.{Parse, parsed, failed, KeyText}
use Rattle.values.specs.declared.keys.Key.{Key}

-- the answer of the code that reads a key
abbrev pub key_of_parse : Parse KeyText → Result Span Fault
key_of_parse (parsed k end) = Ok (span k.start (length k.content))
key_of_parse (failed why place) = Err (placed why place)

-- a key's content
abbrev pub content_of : List ℕ → Key → List ℕ
content_of s k = part s k.start k.size

-- the contents of keys, the latest first
abbrev pub keys_of : List ℕ → List Key → List (List ℕ)
keys_of s keys = map (content_of s) (reverse keys)

-- they lie inside the message
abbrev pub KeysInside : List ℕ → List Key → Type 0
KeysInside s keys = All (λ k. k.start + k.size ≤ length s) keys

-- what a reader at `at` asks of a message of so many bytes and of a scratch for so many keys: an entry takes at least two bytes, so that
-- there is room for the keys of all that may be left
pub record Room (bytes keys at : ℕ) : Type 0 where
  pub short : bytes ≤ most_bytes
  pub enough : bytes ≤ at + 2 * keys
