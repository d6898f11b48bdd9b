-- Why a summary's bytes say what they say: the laws of packed values at its Structure. Assumes nothing.
use Prim.Native.Nat.{ℕ, ◌^◌, ◌≤◌}
use mathlib.Core.Path.{◌≡◌, refl, sym, ap, ◌∙◌}
use mathlib.Core.Bool.{true, cond}
use native.Mathlib.Omega.{arith}
use lib.Count.{count_leading_zeros}
use lib.Dec.{eqb}
use lib.IntN.{pos, negsuc}
use lib.ListN.{length}
use borrow.Author.Tests.{ltb-true}
use Rattle.numbers.proofs.TwosComplement.{fits-yes}
use Rattle.utf8.specs.Utf8.{utf8, sequences_from, sequence, completes}
use Rattle.markers.specs.Value.{Value, null, boolean, integer, float, bytes, string, list, dictionary, structure, Items, no_items, item, Entries, no-entries, entry, count, count_entries, forget, relocate, relocate_items, relocate_entries}
use Rattle.markers.specs.Extents.{most_open}
use Rattle.values.specs.Decode.{repeats}
use Rattle.slices.specs.Equality.{same}
use Rattle.packing.specs.Packing.{pack_integer}
use Rattle.packstream.specs.RoundTrip.{packable, packable_items, packable_entries}
use Rattle.packstream.proofs.RoundTrip.{round_trip}
use Rattle.packstream.proofs.Shortest.{shortest}
use Rattle.states.specs.declared.answers.Failure.{Failure}
use Rattle.states.specs.declared.answers.Failure.TheVariants as F
use Rattle.states.specs.declared.answers.Summary.{Summary}
use Rattle.states.specs.declared.answers.Summary.TheVariants as S
use Rattle.summaries.specs.Summaries.{structure_of, pack_summary}
use Rattle.summaries.specs.SummaryForms.{is_numbered, Claim}
use Rattle.summaries.proofs.Summaries.{ignored-form, success-form, has-more-size, integer-behind, stream-size, failure-form}

-- ---- the Structures
-- each has a form
pub summary-packable : (s : Summary) → is_numbered s ≡ true → packable most_open (structure_of s) ≡ true
unfolding packable packable_items packable_entries count count_entries utf8 sequences_from sequence completes count_leading_zeros same repeats
summary-packable S.Ignored e = refl
summary-packable S.Success e = refl
summary-packable (S.HasMore b) e = refl
summary-packable (S.Stream n) e = rw (fits-yes 8 (pos n) (omega (arith, ltb-true n (2 ^ 32) e))) refl
summary-packable (S.Failure F.StreamsFull) e = refl
summary-packable (S.Failure F.StreamUnknown) e = refl
summary-packable (S.Failure F.EngineFailed) e = refl

-- their offsets say nothing
pub summary-forgets : (s : Summary) → forget (structure_of s) ≡ structure_of s
unfolding relocate relocate_items relocate_entries
summary-forgets S.Ignored = refl
summary-forgets S.Success = refl
summary-forgets (S.HasMore b) = refl
summary-forgets (S.Stream n) = refl
summary-forgets (S.Failure why) = refl

-- ---- which summary a Structure is
-- a text is known by its length
why_of : ℕ → Failure
why_of n = cond (eqb n 17) F.StreamsFull (cond (eqb n 20) F.StreamUnknown F.EngineFailed)

-- by the first entry's value
by_value : Value → Summary
by_value null = S.Success
by_value (boolean b) = S.HasMore b
by_value (integer (pos n)) = S.Stream n
by_value (integer (negsuc n)) = S.Success
by_value (float bits) = S.Success
by_value (bytes start v) = S.Success
by_value (string start v) = S.Failure (why_of (length v))
by_value (list vs) = S.Success
by_value (dictionary es) = S.Success
by_value (structure tag vs) = S.Success

by_entries : Entries → Summary
by_entries no-entries = S.Success
by_entries (entry at start key place v es) = by_value v

by_field : Value → Summary
by_field null = S.Success
by_field (boolean b) = S.Success
by_field (integer z) = S.Success
by_field (float bits) = S.Success
by_field (bytes start v) = S.Success
by_field (string start v) = S.Success
by_field (list vs) = S.Success
by_field (dictionary es) = by_entries es
by_field (structure tag vs) = S.Success

by_fields : Items → Summary
by_fields no_items = S.Ignored
by_fields (item at v vs) = by_field v

summary_of : Value → Summary
summary_of null = S.Success
summary_of (boolean b) = S.Success
summary_of (integer z) = S.Success
summary_of (float bits) = S.Success
summary_of (bytes start v) = S.Success
summary_of (string start v) = S.Success
summary_of (list vs) = S.Success
summary_of (dictionary es) = S.Success
summary_of (structure tag vs) = by_fields vs

summary-back : (s : Summary) → summary_of (structure_of s) ≡ s
unfolding summary_of by_fields by_field by_entries by_value why_of
summary-back S.Ignored = refl
summary-back S.Success = refl
summary-back (S.HasMore b) = refl
summary-back (S.Stream n) = refl
summary-back (S.Failure F.StreamsFull) = refl
summary-back (S.Failure F.StreamUnknown) = refl
summary-back (S.Failure F.EngineFailed) = refl

-- ---- their lengths
pub record Sized (n : ℕ) : Type 0 where
  pub low : 1 ≤ n
  pub high : n ≤ 60

pub sized : (s : Summary) → Sized (length (pack_summary s))
sized S.Ignored = let e = ap length ignored-form in record { low = omega (arith, e); high = omega (arith, e) }
sized S.Success = let e = ap length success-form in record { low = omega (arith, e); high = omega (arith, e) }
sized (S.HasMore b) = let e = has-more-size b in record { low = omega (arith, e); high = omega (arith, e) }
sized (S.Stream n) =
    let k = length (pack_integer (pos n)) in
    let e = stream-size n k (pos n) refl refl in
    let m = integer-behind (pos n) k refl in
    record { low = omega (arith, e); high = omega (arith, e, m) }
sized (S.Failure F.StreamsFull) = let e = ap length (failure-form F.StreamsFull) in record { low = omega (arith, e); high = omega (arith, e) }
sized (S.Failure F.StreamUnknown) = let e = ap length (failure-form F.StreamUnknown) in record { low = omega (arith, e); high = omega (arith, e) }
sized (S.Failure F.EngineFailed) = let e = ap length (failure-form F.EngineFailed) in record { low = omega (arith, e); high = omega (arith, e) }

pub summary-form : Claim
summary-form s =
    let v = structure_of s in
    record {
      least = (sized s).low;
      most = omega (arith, (sized s).high);
      decoded = λ e. (round_trip v).decoded (summary-packable s e) (omega (arith, (sized s).high));
      same = (round_trip v).same 0 ∙ summary-forgets s;
      shortest = λ l w b d f. (shortest v).message l w b d (f ∙ sym (summary-forgets s));
      distinct = λ t e f p. apart t ((round_trip v).distinct (structure_of t) most_open (summary-packable s e) (summary-packable t f) p);
    }
  where
    apart : (t : Summary) → forget (structure_of s) ≡ forget (structure_of t) → s ≡ t
    apart t e = sym (summary-back s) ∙ ap summary_of (sym (summary-forgets s) ∙ e ∙ summary-forgets t) ∙ summary-back t
