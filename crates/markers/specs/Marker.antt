-- The markers: document 01, "Values", the table and the lines after it. Assumes nothing.
use Rattle.std.specs.Prelude.{ℕ, ◌%◌, Bool, true, false, cond, ◌&&◌, List, [], ◌∷◌, leb}
use Rattle.markers.specs.declared.kind.Leaf.{Leaf}
use Rattle.markers.specs.declared.kind.Leaf.TheVariants.{Null, Boolean, Integer, Float, Bytes, String}
use Rattle.markers.specs.declared.kind.Container.TheVariants.{List as ListKind, Dictionary, Structure}
use Rattle.markers.specs.declared.marker.Kind.{Kind}
use Rattle.markers.specs.declared.marker.Kind.TheVariants as K
use Rattle.markers.specs.declared.marker.Marker.{Marker}

-- the marker is the content itself
abbrev pub itself : Leaf → ℕ → Marker
itself k low = record { kind = K.Leaf k; skip = 0; width = 0; size = 1 }

-- the content has n bytes
abbrev pub fixed : Leaf → ℕ → ℕ → Marker
fixed k n low = record { kind = K.Leaf k; skip = 1; width = 0; size = n }

-- "the low four bits of a small marker are its size"
abbrev pub small : Kind → ℕ → Marker
small k low = record { kind = k; skip = 1; width = 0; size = low }

-- the size stands in the w bytes after the marker
abbrev pub sized : Kind → ℕ → ℕ → Marker
sized k w low = record { kind = k; skip = 1; width = w; size = 0 }

-- "every other marker is reserved"
abbrev pub reserved : Marker
reserved = record { kind = K.Reserved; skip = 1; width = 0; size = 0 }

-- a run of markers, and what each stands for by its low four bits
pub record Row : Type 0 where
  pub from : ℕ
  pub to : ℕ
  pub form : ℕ → Marker

-- from one marker on to another
abbrev pub run : ℕ → ℕ → (ℕ → Marker) → Row
run from to form = record { from = from; to = to; form = form }

-- a run of one
abbrev pub one : ℕ → (ℕ → Marker) → Row
one m form = run m m form

-- the table, kind by kind
abbrev pub table : List Row
table =
    -- Null, False, True
    one 0xC0 (fixed Null 0)
    ∷ run 0xC2 0xC3 (itself Boolean)
    -- Float: C1 and 8 bytes
    ∷ one 0xC1 (fixed Float 8)
    -- Integer: 00..7F and F0..FF (-16..-1); C8, C9, CA, CB with 1, 2, 4, 8 bytes
    ∷ run 0x00 0x7F (itself Integer)
    ∷ run 0xF0 0xFF (itself Integer)
    ∷ one 0xC8 (fixed Integer 1)
    ∷ one 0xC9 (fixed Integer 2)
    ∷ one 0xCA (fixed Integer 4)
    ∷ one 0xCB (fixed Integer 8)
    -- Bytes: CC, CD, CE with size of 1, 2, 4 bytes
    ∷ one 0xCC (sized (K.Leaf Bytes) 1)
    ∷ one 0xCD (sized (K.Leaf Bytes) 2)
    ∷ one 0xCE (sized (K.Leaf Bytes) 4)
    -- String: 80..8F; D0, D1, D2
    ∷ run 0x80 0x8F (small (K.Leaf String))
    ∷ one 0xD0 (sized (K.Leaf String) 1)
    ∷ one 0xD1 (sized (K.Leaf String) 2)
    ∷ one 0xD2 (sized (K.Leaf String) 4)
    -- List: 90..9F; D4, D5, D6
    ∷ run 0x90 0x9F (small (K.Container ListKind))
    ∷ one 0xD4 (sized (K.Container ListKind) 1)
    ∷ one 0xD5 (sized (K.Container ListKind) 2)
    ∷ one 0xD6 (sized (K.Container ListKind) 4)
    -- Dictionary: A0..AF; D8, D9, DA
    ∷ run 0xA0 0xAF (small (K.Container Dictionary))
    ∷ one 0xD8 (sized (K.Container Dictionary) 1)
    ∷ one 0xD9 (sized (K.Container Dictionary) 2)
    ∷ one 0xDA (sized (K.Container Dictionary) 4)
    -- Structure: B0..BF
    ∷ run 0xB0 0xBF (small (K.Container Structure))
    ∷ []

-- the row that has the marker says what it stands for
unfoldable pub lookup : List Row → ℕ → Marker
lookup [] m = reserved
lookup (r ∷ rs) m = cond (leb r.from m && leb m r.to) (r.form (m % 16)) (lookup rs m)

-- what a marker stands for
unfoldable pub marker_of : ℕ → Marker
marker_of m = lookup table m

-- only a String has to be text
abbrev pub is_string : Leaf → Bool
is_string Null = false
is_string Boolean = false
is_string Integer = false
is_string Float = false
is_string Bytes = false
is_string String = true
