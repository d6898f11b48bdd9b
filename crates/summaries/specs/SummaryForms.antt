-- What a summary's bytes say: a client reads its Structure back, no shorter message says the same, and no other summary is packed so.
-- Assumes nothing.
use Rattle.std.specs.Prelude.{ℕ, ◌^◌, ◌≤◌, ◌≡◌, Bool, true, List, ltb, length}
use Rattle.numbers.specs.BigEndian.{Bytes}
use Rattle.refusal.specs.Answer.{returned}
use Rattle.markers.specs.Value.{Value, forget}
use Rattle.values.specs.Decode.{decode}
use Rattle.bolt.specs.Limits.{most_bytes}
use Rattle.packstream.specs.RoundTrip.{located}
use Rattle.states.specs.declared.answers.Summary.{Summary}
use Rattle.states.specs.declared.answers.Summary.TheVariants as S
use Rattle.summaries.specs.Summaries.{structure_of, pack_summary}

-- the number of a stream is a u32
abbrev pub is_numbered : Summary → Bool
is_numbered S.Ignored = true
is_numbered S.Success = true
is_numbered (S.HasMore b) = true
is_numbered (S.Stream number) = ltb number (2 ^ 32)
is_numbered (S.Failure why) = true

pub record SummaryForm (s : Summary) : Type 0 where
  -- it is neither empty nor too long for a message
  pub least : 1 ≤ length (pack_summary s)
  pub most : length (pack_summary s) ≤ most_bytes
  -- it decodes to the Structure that the paper names, as it lies in the message
  pub decoded : is_numbered s ≡ true → decode (pack_summary s) ≡ returned (located 0 (structure_of s))
  -- and that is the same Structure, offsets aside
  pub same : forget (located 0 (structure_of s)) ≡ structure_of s
  -- of all messages that are this Structure, offsets aside, none is shorter
  pub shortest : (l : List ℕ) (w : Value) → Bytes l → decode l ≡ returned w → forget w ≡ structure_of s → length (pack_summary s) ≤ length l
  -- summaries that differ have forms that differ
  pub distinct : (t : Summary) → is_numbered s ≡ true → is_numbered t ≡ true → pack_summary s ≡ pack_summary t → s ≡ t

-- of every summary
abbrev pub Claim : Type 0
Claim = (s : Summary) → SummaryForm s
