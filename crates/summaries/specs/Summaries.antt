-- Summaries as the client reads them: document 01, "Connection record", "Summaries"; 000, "SUCCESS", "FAILURE" and "IGNORED". Assumes nothing.
use Rattle.std.specs.Prelude.{ℕ, List, [], ◌∷◌, pos}
use Rattle.markers.specs.Value.{Value, boolean, integer, string, dictionary, structure, no_items, item, Entries, no-entries, entry}
use Rattle.packing.specs.Packing.{pack}
use Rattle.states.specs.declared.answers.Failure.{Failure}
use Rattle.states.specs.declared.answers.Failure.TheVariants as F
use Rattle.states.specs.declared.answers.Summary.{Summary}
use Rattle.states.specs.declared.answers.Summary.TheVariants as S
use Rattle.entries.specs.Names.{qid}

-- "has_more"
abbrev pub has_more : List ℕ
has_more = 0x68 ∷ 0x61 ∷ 0x73 ∷ 0x5F ∷ 0x6D ∷ 0x6F ∷ 0x72 ∷ 0x65 ∷ []

-- "code"
abbrev pub code : List ℕ
code = 0x63 ∷ 0x6F ∷ 0x64 ∷ 0x65 ∷ []

-- "message"
abbrev pub message : List ℕ
message = 0x6D ∷ 0x65 ∷ 0x73 ∷ 0x73 ∷ 0x61 ∷ 0x67 ∷ 0x65 ∷ []

-- "Parts.Stream.Full", "Parts.Stream.Unknown", "Parts.Engine.Failed"
abbrev pub text_of : Failure → List ℕ
text_of F.StreamsFull = 0x50 ∷ 0x61 ∷ 0x72 ∷ 0x74 ∷ 0x73 ∷ 0x2E ∷ 0x53 ∷ 0x74 ∷ 0x72 ∷ 0x65 ∷ 0x61 ∷ 0x6D ∷ 0x2E ∷ 0x46 ∷ 0x75 ∷ 0x6C ∷ 0x6C ∷ []
text_of F.StreamUnknown =
    0x50 ∷ 0x61 ∷ 0x72 ∷ 0x74 ∷ 0x73 ∷ 0x2E ∷ 0x53 ∷ 0x74 ∷ 0x72 ∷ 0x65 ∷ 0x61 ∷ 0x6D ∷ 0x2E ∷ 0x55 ∷ 0x6E ∷ 0x6B ∷ 0x6E ∷ 0x6F ∷ 0x77 ∷ 0x6E ∷ []
text_of F.EngineFailed =
    0x50 ∷ 0x61 ∷ 0x72 ∷ 0x74 ∷ 0x73 ∷ 0x2E ∷ 0x45 ∷ 0x6E ∷ 0x67 ∷ 0x69 ∷ 0x6E ∷ 0x65 ∷ 0x2E ∷ 0x46 ∷ 0x61 ∷ 0x69 ∷ 0x6C ∷ 0x65 ∷ 0x64 ∷ []

-- a Structure whose one field is a Dictionary. The offsets of a value that is to be packed say nothing
abbrev pub about : ℕ → Entries → Value
about tag es = structure tag (item 0 (dictionary es) no_items)

-- an entry, and more behind it
abbrev pub says : List ℕ → Value → Entries → Entries
says key v es = entry 0 0 key 0 v es

-- IGNORED 7E has no field; SUCCESS 70 "with {"has_more": b} .. {"qid": i} .. else {}"; FAILURE 7F "with {"code", "message"} in that
-- order, both the same text"
abbrev pub structure_of : Summary → Value
structure_of S.Ignored = structure 0x7E no_items
structure_of S.Success = about 0x70 no-entries
structure_of (S.HasMore b) = about 0x70 (says has_more (boolean b) no-entries)
structure_of (S.Stream number) = about 0x70 (says qid (integer (pos number)) no-entries)
structure_of (S.Failure why) = about 0x7F (says code (string 0 (text_of why)) (says message (string 0 (text_of why)) no-entries))

-- a summary's bytes: its Structure, packed
abbrev pub pack_summary : Summary → List ℕ
pack_summary s = pack (structure_of s)
