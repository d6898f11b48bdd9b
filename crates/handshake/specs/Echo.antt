-- "The first proposal equal to a known one is chosen and echoed" (document 01, "Handshake"): the bytes of the version agreed on are that
-- proposal, byte for byte. Proved in proofs/Echo.antt. Assumes nothing.
use Rattle.std.specs.Prelude.{ℕ, ◌≡◌, Bool, cond, ◌||◌, List, [], ◌∷◌, Option, Some, None}
use Rattle.slices.specs.Parts.{part}
use Rattle.slices.specs.Equality.{same}
use Rattle.refusal.specs.Answer.{returned}
use Rattle.handshake.specs.Version.{bytes_of}
use Rattle.handshake.specs.Negotiation.{negotiated}

-- "four proposals of four bytes in order of preference"
abbrev pub proposals : List ℕ → List (List ℕ)
proposals s = part s 4 4 ∷ part s 8 4 ∷ part s 12 4 ∷ part s 16 4 ∷ []

-- "4.0 `00 00 00 04`, 4.1 `00 00 01 04`, 4.2 `00 00 02 04`"
abbrev pub is_known : List ℕ → Bool
is_known p =
    same p (0x00 ∷ 0x00 ∷ 0x00 ∷ 0x04 ∷ [])
    || (same p (0x00 ∷ 0x00 ∷ 0x01 ∷ 0x04 ∷ [])
    || same p (0x00 ∷ 0x00 ∷ 0x02 ∷ 0x04 ∷ []))

-- the first that is known
abbrev pub first_known : List (List ℕ) → Option (List ℕ)
first_known [] = None
first_known (p ∷ ps) = cond (is_known p) (Some p) (first_known ps)

-- of every handshake
abbrev pub Claim : Type 0
Claim = (s : List ℕ) (minor : ℕ) → negotiated s ≡ returned minor → first_known (proposals s) ≡ Some (bytes_of minor)
