-- Handshakes at the edges: document 01, "Cases at the edges", with some more of our own. Assumes nothing.
use Rattle.std.specs.Prelude.{[], ◌∷◌, ◌≡◌, refl}
use Rattle.refusal.specs.Answer.{returned, refused}
use Rattle.handshake.specs.Version.{among}
use Rattle.slices.specs.Equality.{same}
use Rattle.handshake.specs.Negotiation.{agrees, chosen, negotiated}

wrong-before-short : negotiated (0x60 ∷ 0x61 ∷ []) ≡ refused 2 0
unfolding negotiated agrees
wrong-before-short = refl

-- 4.3 is not known, 4.1 is preferred to 4.0
first-known : negotiated (0x60 ∷ 0x60 ∷ 0xB0 ∷ 0x17 ∷ 0 ∷ 0 ∷ 3 ∷ 4 ∷ 0 ∷ 0 ∷ 1 ∷ 4 ∷ 0 ∷ 0 ∷ 0 ∷ 4 ∷ 0 ∷ 0 ∷ 0 ∷ 0 ∷ []) ≡ returned 1
unfolding negotiated agrees chosen among same
first-known = refl
