-- The edges of UTF-8, from document 01, "Cases at the edges", and RFC 3629, sections 3 (the ends of each range) and 7 (examples): one
-- table, and one statement of all. Assumes nothing.
use Rattle.std.specs.Prelude.{ℕ, ◌≡◌, refl, true, false, List, [], ◌∷◌}
use Rattle.std.specs.Int.Count.{count_leading_zeros}
use Rattle.utf8.specs.Utf8.{utf8, sequences_from, sequence, completes}
use Rattle.utf8.specs.Encoding.{encode, continuations}

pub data Case : Type 0 where
  accepted refused : List ℕ → Case
  encoded : ℕ → List ℕ → Case

abbrev pub Holds : Case → Type 0
Holds (accepted s) = utf8 s ≡ true
Holds (refused s) = utf8 s ≡ false
Holds (encoded v s) = encode v ≡ s

abbrev pub All : List Case → Type 0
All [] = Unit {0}
All (c ∷ cs) = Holds c × All cs

abbrev pub table : List Case
table =
    accepted (0xC3 ∷ 0xA9 ∷ [])
    -- a continuation byte alone, and a sequence cut off
    ∷ refused (0x80 ∷ [])
    ∷ refused (0xE2 ∷ 0x82 ∷ [])
    -- overlong: 0 and 7F in two bytes, 7FF in three, FFFF in four
    ∷ refused (0xC0 ∷ 0x80 ∷ [])
    ∷ refused (0xC1 ∷ 0xBF ∷ [])
    ∷ refused (0xE0 ∷ 0x9F ∷ 0xBF ∷ [])
    ∷ refused (0xF0 ∷ 0x8F ∷ 0xBF ∷ 0xBF ∷ [])
    -- D7FF, the surrogates D800 and DFFF, E000
    ∷ accepted (0xED ∷ 0x9F ∷ 0xBF ∷ [])
    ∷ refused (0xED ∷ 0xA0 ∷ 0x80 ∷ [])
    ∷ refused (0xED ∷ 0xBF ∷ 0xBF ∷ [])
    ∷ accepted (0xEE ∷ 0x80 ∷ 0x80 ∷ [])
    -- 10FFFF, 110000, 140000, and five leading ones
    ∷ accepted (0xF4 ∷ 0x8F ∷ 0xBF ∷ 0xBF ∷ [])
    ∷ refused (0xF4 ∷ 0x90 ∷ 0x80 ∷ 0x80 ∷ [])
    ∷ refused (0xF5 ∷ 0x80 ∷ 0x80 ∷ 0x80 ∷ [])
    ∷ refused (0xF8 ∷ 0x88 ∷ 0x80 ∷ 0x80 ∷ 0x80 ∷ [])
    -- A, Alpha, "not identical to" and "stump of tree"
    ∷ encoded 0x41 (0x41 ∷ [])
    ∷ encoded 0x391 (0xCE ∷ 0x91 ∷ [])
    ∷ encoded 0x2262 (0xE2 ∷ 0x89 ∷ 0xA2 ∷ [])
    ∷ encoded 0x233B4 (0xF0 ∷ 0xA3 ∷ 0x8E ∷ 0xB4 ∷ [])
    ∷ []

pub edges : All table
unfolding utf8 sequences_from sequence completes count_leading_zeros encode continuations
edges =
    (refl, (refl, (refl, (refl, (refl, (refl, (refl, (refl, (refl, (refl, (refl, (refl, (refl, (refl, (refl, (refl, (refl, (refl, (refl, tt)))))))))))))))))))
