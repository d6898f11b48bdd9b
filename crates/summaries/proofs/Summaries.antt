-- Laws of summaries: their forms as the code writes them out, and what packing these answers. Assumes nothing.
use mathlib.Core.Path.{◌≡◌, refl, sym, ap, ◌∙◌, subst}
use mathlib.Core.Bool.{Bool, true, false, not}
use mathlib.Core.List.{List, [], ◌∷◌, ◌++◌, append-nil}
use Prim.Native.Nat.{ℕ, ◌+◌, ◌≤◌}
use native.Mathlib.Omega.{arith}
use mir.Syntax.{w32, w64}
use mir.Val.{Fits, to_z}
use mir.Facts.{to_z_pos}
use lib.IntN.{ℤ, pos}
use lib.ListN.{length}
use lib.Seq.{sets, length-sets}
use Rattle.slices.specs.Parts.{reaches, fits, copied}
use Rattle.slices.proofs.Parts.{reaches-le, sets-append, fits-yes}
use Rattle.numbers.specs.BigEndian.{bytes_of}
use Rattle.numbers.specs.TwosComplement.{fits_in}
use Rattle.numbers.proofs.Access.{passed}
use Rattle.refusal.specs.Answer.{returned}
use Rattle.markers.specs.Value.{count, count_entries}
use Rattle.packing.specs.Packing.{is_tiny, pack_integer, pack, pack_items, pack_entries, size_header, narrowest, doublings}
use Rattle.std.specs.Prelude.{Result, Ok}
use Rattle.refusal.specs.declared.Refusal.{Refusal}
use Rattle.packing.proofs.Packing.{narrowest-most, length-tiny, length-integer, Packs, packs, packed-there}
use Rattle.states.specs.declared.answers.Failure.{Failure}
use Rattle.states.specs.declared.answers.Failure.TheVariants as F
use Rattle.states.specs.declared.answers.Summary.TheVariants as S
use Rattle.entries.specs.Names.{qid}
use Rattle.summaries.specs.Summaries.{text_of, has_more, code, message, pack_summary}

-- ---- the forms
-- what stands before the number of a stream
abbrev pub before-qid : List ℕ
before-qid = 0xB1 ∷ 0x70 ∷ 0xA1 ∷ 0x83 ∷ qid

pub stream-form : (n : ℕ) → before-qid ++ pack_integer (pos n) ≡ pack_summary (S.Stream n)
unfolding pack pack_items pack_entries size_header count count_entries
stream-form n = ap (λ (l : List ℕ). before-qid ++ l) (sym (append-nil (pack_integer (pos n) ++ []) ∙ append-nil (pack_integer (pos n))))

pub ignored-form : 0xB0 ∷ 0x7E ∷ [] ≡ pack_summary S.Ignored
unfolding pack pack_items count
ignored-form = refl

pub success-form : 0xB1 ∷ 0x70 ∷ 0xA0 ∷ [] ≡ pack_summary S.Success
unfolding pack pack_items pack_entries size_header count count_entries
success-form = refl

abbrev pub before_more : List ℕ
before_more = 0xB1 ∷ 0x70 ∷ 0xA1 ∷ 0x88 ∷ has_more

pub more-form : before_more ++ 0xC3 ∷ [] ≡ pack_summary (S.HasMore true)
unfolding pack pack_items pack_entries size_header count count_entries
more-form = refl

pub last-form : before_more ++ 0xC2 ∷ [] ≡ pack_summary (S.HasMore false)
unfolding pack pack_items pack_entries size_header count count_entries
last-form = refl

-- a FAILURE, where its text is longer than four bits count
abbrev pub failure-of : List ℕ → List ℕ
failure-of text = 0xB1 ∷ 0x7F ∷ 0xA2 ∷ 0x84 ∷ code ++ 0xD0 ∷ length text ∷ text ++ 0x87 ∷ message ++ 0xD0 ∷ length text ∷ text

pub failure-form : (why : Failure) → failure-of (text_of why) ≡ pack_summary (S.Failure why)
unfolding pack pack_items pack_entries size_header narrowest doublings bytes_of count count_entries
failure-form F.StreamsFull = refl
failure-form F.StreamUnknown = refl
failure-form F.EngineFailed = refl

-- ---- their lengths
integer-most : (z : ℤ) → length (pack_integer z) ≤ 9
integer-most z = by (is_tiny z) refl
  where
    by : (b : Bool) → is_tiny z ≡ b → length (pack_integer z) ≤ 9
    by true e = omega (arith, length-tiny z e)
    by false e = omega (arith, length-integer z e, narrowest-most (λ w. fits_in w z))

pub integer-behind : (z : ℤ) (k : ℕ) → k ≡ length (pack_integer z) → 7 + k ≤ 16
integer-behind z k e = omega (arith, e, integer-most z)

-- a u32 as an i64
pub stream-number : {n : ℕ} → Fits w32 n → to_z w64 n ≡ pos n
stream-number f = to_z_pos w64 (omega (arith, f.fits))

pub stream-size : (n k : ℕ) (z : ℤ) → z ≡ pos n → k ≡ length (pack_integer z) → 7 + k ≡ length (pack_summary (S.Stream n))
stream-size n k z f e = omega (arith, e, ap (λ (y : ℤ). length (pack_integer y)) f, ap length (stream-form n))

pub has-more-size : (b : Bool) → 13 ≡ length (pack_summary (S.HasMore b))
has-more-size true = ap length more-form
has-more-size false = ap length last-form

-- ---- packing the number of a stream behind what stands before it
module _ (n : ℕ) (d : List ℕ) (at k : ℕ) (t : Bool) (l : k ≡ length (pack_summary (S.Stream n))) (q : t ≡ reaches d at k) (y : not t ≡ false) where
  pub stream-room : at + (7 + length (pack_integer (pos n))) ≤ length d
  stream-room = omega (arith, reaches-le d at k (passed q y), l, stream-size n (length (pack_integer (pos n))) (pos n) refl refl)

  pub stream-packed : (c e : List ℕ) (r : Result ℕ Refusal) (z : ℤ) → z ≡ pos n → c ≡ copied before-qid 0 7 d at → Packs c (at + 7) (returned (pack_integer z)) r e
      → Packs d at (returned (pack_summary (S.Stream n))) r e
  stream-packed c e r z i f p =
      let v = pack_integer (pos n) in
      let o : Packs c (at + 7) (returned v) r e = rw i at p in
      let g : c ≡ sets d at before-qid = f ∙ rw (fits-yes before-qid 0 7 d at (omega arith) (omega (arith, stream-room))) in
      let there = packed-there c (at + 7) (returned v) r e v o refl (omega (arith, stream-room, ap length g, length-sets d at before-qid)) in
      let s : at + 7 + length v ≡ at + k = omega (arith, l, stream-size n (length v) (pos n) refl refl) in
      let w : e ≡ sets d at (pack_summary (S.Stream n)) =
      there.1 ∙ ap (λ (b : List ℕ). sets b (at + 7) v) g ∙ sets-append before-qid v d at ∙ ap (λ (b : List ℕ). sets d at b) (stream-form n) in
      subst (λ (x : Result ℕ Refusal). Packs d at (returned (pack_summary (S.Stream n))) x e) (sym (there.0 ∙ ap (λ (end : ℕ). Ok end) s))
      (packs d at (returned (pack_summary (S.Stream n))) (pack_summary (S.Stream n)) k t refl l q e y w)
