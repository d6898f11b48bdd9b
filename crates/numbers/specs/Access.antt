-- What reads and writes of numbers in a slice answer, and what a write leaves in the slice. Assumes nothing.
use Rattle.std.specs.Prelude.{ℕ, Bool, cond, ◌||◌, List, ℤ, eqb, Result, Ok, Err}
use Rattle.std.proofs.lemmas.List.Edits.{sets}
use Rattle.slices.specs.Parts.{part, reaches}
use Rattle.numbers.specs.BigEndian.{big_endian}
use Rattle.numbers.specs.TwosComplement.{twos}
use Rattle.numbers.specs.declared.ReadError.{ReadError}
use Rattle.numbers.specs.declared.ReadError.TheVariants as R
use Rattle.numbers.specs.declared.WriteError.{WriteError}
use Rattle.numbers.specs.declared.WriteError.TheVariants.{OutOfRange, OutOfBounds, InvalidWidth}

-- numbers are 1, 2, 4 or 8 bytes wide
abbrev pub is_width : ℕ → Bool
is_width k = eqb k 1 || eqb k 2 || eqb k 4 || eqb k 8

-- the unsigned number in the k bytes from `at` on
unfoldable pub unsigned_at : List ℕ → ℕ → ℕ → Result ℕ ReadError
unsigned_at s at k = cond (is_width k) (cond (reaches s at k) (Ok (big_endian (part s at k))) (Err R.OutOfBounds)) (Err R.InvalidWidth)

-- the same answer with the number taken in two's complement
abbrev pub signed_of : ℕ → Result ℕ ReadError → Result ℤ ReadError
signed_of k (Ok n) = Ok (twos k n)
signed_of k (Err why) = Err why

-- the integer in the k bytes from `at` on
abbrev pub signed_at : List ℕ → ℕ → ℕ → Result ℤ ReadError
signed_at s at k = signed_of k (unsigned_at s at k)

-- what a write of k bytes from `at` on answers; `held` says that k bytes can hold the number
unfoldable pub storing : Bool → List ℕ → ℕ → ℕ → Result Unit WriteError
storing held d at k = cond (is_width k) (cond held (cond (reaches d at k) (Ok tt) (Err OutOfBounds)) (Err OutOfRange)) (Err InvalidWidth)

-- the slice after a write of the bytes v from `at` on that answered so
abbrev pub stored : Result Unit WriteError → List ℕ → ℕ → List ℕ → List ℕ
stored (Ok _) d at v = sets d at v
stored (Err why) d at v = d
