-- The inverse laws, proved once for every width. Assumes nothing.
use mathlib.Core.Path.{◌≡◌, sym, ap, ◌∙◌, subst}
use mathlib.Core.Bool.{true}
use mathlib.Core.List.{List}
use Prim.Native.Nat.{ℕ, ◌^◌, ◌≤◌, ◌<◌}
use lib.IntN.{ℤ}
use Rattle.std.specs.Prelude.{Ok}
use lib.ListN.{length}
use lib.Seq.{sets, length-sets}
use Rattle.slices.specs.Parts.{part}
use Rattle.slices.proofs.Parts.{part-sets}
use Rattle.numbers.specs.BigEndian.{big_endian, bytes_of, holds, Bytes}
use Rattle.numbers.specs.TwosComplement.{twos, bits_of, fits_in}
use Rattle.numbers.specs.Access.{unsigned_at, signed_at, signed_of}
use Rattle.numbers.specs.RoundTrip.{Claim}
use Rattle.numbers.proofs.BigEndian.{big_lt, length-bytes_of, read_back, write-back}
use Rattle.numbers.proofs.TwosComplement.{bits-lt, twos-bits, bits-twos}
use Rattle.numbers.proofs.Access.{Lies, width-least, unsigned-number, storing-done, holds-lt}

module _ (k : ℕ) where
  bytes_back : (v : List ℕ) → length v ≡ k → Bytes v → bytes_of k (big_endian v) ≡ v
  bytes_back v e b = ap (λ (j : ℕ). bytes_of j (big_endian v)) (sym e) ∙ write-back v b

  signed_back : 1 ≤ k → (z : ℤ) → fits_in k z ≡ true → twos k (big_endian (bytes_of k (bits_of k z))) ≡ z
  signed_back h z e = ap (twos k) (read_back k (bits_of k z) (bits-lt k z e)) ∙ twos-bits k z h e

  signed-bytes-back : (v : List ℕ) → length v ≡ k → Bytes v → bytes_of k (bits_of k (twos k (big_endian v))) ≡ v
  signed-bytes-back v e b =
      ap (bytes_of k) (bits-twos k (big_endian v) (subst (λ (j : ℕ). big_endian v < 256 ^ j) e (big_lt v b))) ∙ bytes_back v e b

  -- a slice into which the bytes of a number were written holds that number
  pub stored-number : (d : List ℕ) (at n : ℕ) → n < 256 ^ k → Lies d at k → unsigned_at (sets d at (bytes_of k n)) at k ≡ Ok n
  stored-number d at n h l =
      let v = bytes_of k n in
      let e : length v ≡ k = length-bytes_of k n in
      let m : length (sets d at v) ≡ length d = length-sets d at v in
      sym (unsigned-number (sets d at v) at k (record { width = l.width; inside = rw m l.inside }))
      ∙ ap Ok (ap big_endian (subst (λ (j : ℕ). part (sets d at v) at j ≡ v) e (part-sets d at v (rw e l.inside))) ∙ read_back k n h)

  -- the same of an integer
  pub stored-integer : (d : List ℕ) (at : ℕ) (z : ℤ) → fits_in k z ≡ true → Lies d at k
      → signed_at (sets d at (bytes_of k (bits_of k z))) at k ≡ Ok z
  stored-integer d at z e l =
      ap (signed_of k) (stored-number d at (bits_of k z) (bits-lt k z e) l) ∙ ap Ok (twos-bits k z (width-least k l.width) e)

pub round_trip : Claim
round_trip k =
    record {
      unsigned = read_back k;
      unsigned_bytes = bytes_back k;
      signed = signed_back k;
      signed-bytes = signed-bytes-back k;
      unsigned-stored = λ d at n e. let a = storing-done (holds k n) d at k (sym e) in stored-number k d at n (holds-lt k n a.0) a.1;
      signed-stored = λ d at z e. let a = storing-done (fits_in k z) d at k (sym e) in stored-integer k d at z a.0 a.1;
    }
