-- What the check means, said from the other side: the encodings of texts, and nothing else, are accepted. Assumes nothing.
use Rattle.std.specs.Prelude.{ℕ, zero, suc, ◌+◌, ◌/◌, ◌%◌, ◌^◌, ◌≡◌, true, cond, List, [], ◌∷◌, ◌++◌, ltb}
use Rattle.utf8.specs.Utf8.{is_scalar, utf8}

-- the low bits of v, six in each of `count` continuation bytes, 10xxxxxx
unfoldable pub continuations : ℕ → ℕ → List ℕ
continuations zero v = []
continuations (suc count) v = (0x80 + v / 0x40 ^ count % 0x40) ∷ continuations count v

-- RFC 3629, section 3, "Char. number range | UTF-8 octet sequence": the octets of a scalar value
unfoldable pub encode : ℕ → List ℕ
encode v =
    cond (ltb v 0x80) (v ∷ [])  -- 0xxxxxxx
    (cond (ltb v 0x800) ((0xC0 + v / 0x40) ∷ continuations 1 v)  -- 110xxxxx
    (cond (ltb v 0x10000) ((0xE0 + v / 0x1000) ∷ continuations 2 v)  -- 1110xxxx
    ((0xF0 + v / 0x40000) ∷ continuations 3 v)))  -- 11110xxx

-- the octets of a text: those of its scalar values, one after another
unfoldable pub encode_all : List ℕ → List ℕ
encode_all [] = []
encode_all (v ∷ text) = encode v ++ encode_all text

-- a text: each of its numbers is a scalar value
abbrev pub IsText : List ℕ → Type 0
IsText [] = Unit {0}
IsText (v ∷ text) = (is_scalar v ≡ true) × IsText text

-- s is the encoding of a text
pub record Encoded (s : List ℕ) : Type 0 where
  pub text : List ℕ
  pub is-text : IsText text
  pub encodes : s ≡ encode_all text

-- the check accepts exactly the encodings of texts
pub record AcceptsEncodings : Type 0 where
  -- every encoding is accepted
  pub complete : (text : List ℕ) → IsText text → utf8 (encode_all text) ≡ true
  -- nothing else is
  pub sound : (s : List ℕ) → utf8 s ≡ true → Encoded s
