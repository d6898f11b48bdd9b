-- Numbers survive their bytes, and bytes their number: the inverse laws, stated once for every width of k bytes. Assumes nothing.
use Rattle.std.specs.Prelude.{ℕ, ◌^◌, ◌≤◌, ◌<◌, ◌≡◌, true, List, ℤ, length, Ok}
use Rattle.numbers.specs.BigEndian.{big_endian, bytes_of, holds, Bytes}
use Rattle.numbers.specs.TwosComplement.{twos, bits_of, fits_in}
use Rattle.numbers.specs.Access.{unsigned_at, signed_at, storing, stored}

pub record RoundTrip (k : ℕ) : Type 0 where
  -- a number that k bytes can hold is the number of its k bytes
  pub unsigned : (n : ℕ) → n < 256 ^ k → big_endian (bytes_of k n) ≡ n
  -- k bytes are the bytes of their number
  pub unsigned_bytes : (v : List ℕ) → length v ≡ k → Bytes v → bytes_of k (big_endian v) ≡ v
  -- an integer that k bytes can hold is the integer of its k bytes
  pub signed : 1 ≤ k → (z : ℤ) → fits_in k z ≡ true → twos k (big_endian (bytes_of k (bits_of k z))) ≡ z
  -- k bytes are the bytes of their integer
  pub signed-bytes : (v : List ℕ) → length v ≡ k → Bytes v → bytes_of k (bits_of k (twos k (big_endian v))) ≡ v
  -- a write that answers `Ok` is read back
  pub unsigned-stored : (d : List ℕ) (at n : ℕ) → storing (holds k n) d at k ≡ Ok tt
      → unsigned_at (stored (Ok tt) d at (bytes_of k n)) at k ≡ Ok n
  pub signed-stored : (d : List ℕ) (at : ℕ) (z : ℤ) → storing (fits_in k z) d at k ≡ Ok tt
      → signed_at (stored (Ok tt) d at (bytes_of k (bits_of k z))) at k ≡ Ok z

-- of every width
abbrev pub Claim : Type 0
Claim = (k : ℕ) → RoundTrip k
