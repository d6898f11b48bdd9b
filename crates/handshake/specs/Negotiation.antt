-- The handshake (document 01, "Handshake", and refusals 1 to 3). Assumes nothing.
use Rattle.std.specs.Prelude.{ℕ, zero, suc, Bool, true, cond, ◌&&◌, List, [], ◌∷◌, ltb, eqb, length, take, drop, Option, Some, None}
use Rattle.refusal.specs.Answer.{Answer, returned, refused}
use Rattle.handshake.specs.Version.{proposed}

-- `60 60 B0 17`
abbrev pub preamble : List ℕ
preamble = 0x60 ∷ 0x60 ∷ 0xB0 ∷ 0x17 ∷ []

-- no byte among those present is wrong
unfoldable pub agrees : List ℕ → List ℕ → Bool
agrees [] s = true
agrees (p ∷ ps) [] = true
agrees (p ∷ ps) (b ∷ s) = eqb b p && agrees ps s

-- the version named, or what comes of the proposals after it
abbrev pub or_else : Option ℕ → Answer ℕ → Answer ℕ
or_else (Some minor) later = returned minor
or_else None later = later

-- the first of n proposals that is known is chosen; 3 if none is
unfoldable pub chosen : ℕ → List ℕ → Answer ℕ
chosen zero s = refused 3 0
chosen (suc n) s = or_else (proposed (take 4 s)) (chosen n (drop 4 s))

-- the minor version agreed on: a wrong byte of the preamble wins over a handshake that is short
unfoldable pub negotiated : List ℕ → Answer ℕ
negotiated s =
    cond (agrees preamble s)
    (cond (ltb (length s) 20) (refused 1 0) (chosen 4 (drop 4 s)))
    (refused 2 0)
