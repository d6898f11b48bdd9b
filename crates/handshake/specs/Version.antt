-- The versions known and their bytes (document 01, "Handshake"), and which have keep-alives ("Frames"). Assumes nothing.
use Rattle.std.specs.Prelude.{ℕ, Bool, cond, List, [], ◌∷◌, leb, Option, Some, None, option_map}
use Rattle.handshake.specs.declared.version.Version.{Version}
use Rattle.slices.specs.Equality.{same}

-- 4.0, 4.1 and 4.2, by their minor numbers
abbrev pub known : List ℕ
known = 0 ∷ 1 ∷ 2 ∷ []

-- a version is written `00 00 minor major`
abbrev pub bytes_of : ℕ → List ℕ
bytes_of minor = 0 ∷ 0 ∷ minor ∷ 4 ∷ []

-- the one of these versions whose bytes are the ones given
unfoldable pub among : List ℕ → List ℕ → Option ℕ
among [] bytes = None
among (minor ∷ minors) bytes = cond (same bytes (bytes_of minor)) (Some minor) (among minors bytes)

-- a proposal equal to a known version names it; others match nothing
abbrev pub proposed : List ℕ → Option ℕ
proposed bytes = among known bytes

-- the version that the code's answer names
abbrev pub named_by : Option Version → Option ℕ
named_by found = option_map (λ version. version.minor) found

-- keep-alives are of 4.1 and 4.2
abbrev pub keeps_alive : ℕ → Bool
keeps_alive minor = leb 1 minor
