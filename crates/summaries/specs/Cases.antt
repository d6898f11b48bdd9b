-- The forms of the summaries byte by byte, in one table under one statement: document 01, "Summaries". Assumes nothing.
use Rattle.std.specs.Prelude.{ℕ, ◌≡◌, refl, true, false, List, [], ◌∷◌, ◌++◌, map}
use Rattle.numbers.specs.BigEndian.{bytes_of}
use Rattle.numbers.specs.TwosComplement.{fits_in, bits_of}
use Rattle.markers.specs.Value.{count, count_entries}
use Rattle.packing.specs.Packing.{narrowest, doublings, pack_integer, size_header, pack, pack_items, pack_entries}
use Rattle.states.specs.declared.answers.Failure.TheVariants as F
use Rattle.states.specs.declared.answers.Summary.{Summary}
use Rattle.states.specs.declared.answers.Summary.TheVariants as S
use Rattle.summaries.specs.Summaries.{code, message, text_of, pack_summary}

record Case : Type 0 where
  summary : Summary
  bytes : List ℕ

abbrev is : Summary → List ℕ → Case
is s l = record { summary = s; bytes = l }

abbrev cases : List Case
cases =
    is S.Ignored (0xB0 ∷ 0x7E ∷ [])
    ∷ is S.Success (0xB1 ∷ 0x70 ∷ 0xA0 ∷ [])
    -- as the bench trial program's run shows it
    ∷ is (S.HasMore false) (0xB1 ∷ 0x70 ∷ 0xA1 ∷ 0x88 ∷ 0x68 ∷ 0x61 ∷ 0x73 ∷ 0x5F ∷ 0x6D ∷ 0x6F ∷ 0x72 ∷ 0x65 ∷ 0xC2 ∷ [])
    ∷ is (S.HasMore true) (0xB1 ∷ 0x70 ∷ 0xA1 ∷ 0x88 ∷ 0x68 ∷ 0x61 ∷ 0x73 ∷ 0x5F ∷ 0x6D ∷ 0x6F ∷ 0x72 ∷ 0x65 ∷ 0xC3 ∷ [])
    -- ★
    ∷ is (S.Stream 5) (0xB1 ∷ 0x70 ∷ 0xA1 ∷ 0x83 ∷ 0x71 ∷ 0x69 ∷ 0x64 ∷ 0x05 ∷ [])
    -- the last number that is given
    ∷ is (S.Stream 65535) (0xB1 ∷ 0x70 ∷ 0xA1 ∷ 0x83 ∷ 0x71 ∷ 0x69 ∷ 0x64 ∷ 0xCA ∷ 0x00 ∷ 0x00 ∷ 0xFF ∷ 0xFF ∷ [])
    ∷ is (S.Failure F.StreamsFull)
    (0xB1 ∷ 0x7F ∷ 0xA2 ∷ 0x84 ∷ code ++ 0xD0 ∷ 17 ∷ text_of F.StreamsFull ++ 0x87 ∷ message ++ 0xD0 ∷ 17 ∷ text_of F.StreamsFull)
    ∷ is (S.Failure F.StreamUnknown)
    (0xB1 ∷ 0x7F ∷ 0xA2 ∷ 0x84 ∷ code ++ 0xD0 ∷ 20 ∷ text_of F.StreamUnknown ++ 0x87 ∷ message ++ 0xD0 ∷ 20 ∷ text_of F.StreamUnknown)
    ∷ is (S.Failure F.EngineFailed)
    (0xB1 ∷ 0x7F ∷ 0xA2 ∷ 0x84 ∷ code ++ 0xD0 ∷ 19 ∷ text_of F.EngineFailed ++ 0x87 ∷ message ++ 0xD0 ∷ 19 ∷ text_of F.EngineFailed)
    ∷ []

pub hold : map (λ c. pack_summary c.summary) cases ≡ map (λ c. c.bytes) cases
unfolding pack pack_items pack_entries size_header pack_integer narrowest doublings fits_in bits_of bytes_of count count_entries
hold = refl
