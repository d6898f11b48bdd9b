-- A value's bytes are read alike wherever they lie: stated here, and proved in `proofs/Embedding.antt`. Assumes nothing.
use Rattle.std.specs.Prelude.{◌≡◌, List, ℕ, ◌+◌, ◌≤◌, length}
use Rattle.slices.specs.Parts.{part}
use Rattle.markers.specs.Value.{Value, relocate}
use Rattle.values.specs.Private.Placement.{Reads}

-- the bytes s lie in t from k on
pub record Lies (s t : List ℕ) (k : ℕ) : Type 0 where
  pub bytes : part t k (length s) ≡ s
  pub inside : k + length s ≤ length t

-- what is read in s is read in t, every offset moved by k; what else t has does not matter, nor does more room for open containers
abbrev pub ReadAlike : List ℕ → List ℕ → ℕ → Type 0
ReadAlike s t k =
    (depth more : ℕ) → depth ≤ more → (at : ℕ) (v : Value) (end : ℕ) → Reads s depth at v end
    → Reads t more (k + at) (relocate (λ n. k + n) v) (k + end)

-- of all bytes that lie in others
abbrev pub Claim : Type 0
Claim = (s t : List ℕ) (k : ℕ) → Lies s t k → ReadAlike s t k
