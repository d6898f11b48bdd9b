-- Extents at the edges, in one table under one statement. Assumes nothing.
use Rattle.std.specs.Prelude.{◌≡◌, refl, [], ◌∷◌, Result}
use Rattle.numbers.specs.BigEndian.{big_endian}
use Rattle.numbers.specs.Access.{unsigned_at}
use Rattle.refusal.specs.Answer.{Answer, returned, refused, told_at, mapped}
use Rattle.markers.specs.Marker.{marker_of, lookup}
use Rattle.markers.specs.Extents.{Content, leaf, container, content_of, key_content, extent_at, key_extent_at, leaf_span, container_extent, most_open}
use Rattle.refusal.specs.declared.Fault.{Fault}
use Rattle.markers.specs.declared.extent.Extent.{Extent}
use Rattle.markers.specs.declared.extent.Span.{Span}
use Rattle.markers.specs.declared.kind.Leaf.TheVariants as L
use Rattle.markers.specs.declared.kind.Container.TheVariants as C

-- what the code answers at a value, and at a key, in document 01's terms
abbrev pub at_value : Result Extent Fault → Answer Content
at_value extent = mapped content_of (told_at extent)

abbrev pub at_key : Result Span Fault → Answer Content
at_key key = mapped key_content (told_at key)

pub hold :
    -- a String of three bytes; a List of two items, none of which is looked at
    at_value (extent_at (0x83 ∷ 0x61 ∷ 0x62 ∷ 0x63 ∷ []) most_open 0) ∷ at_value (extent_at (0xD4 ∷ 0x02 ∷ []) most_open 0)
    -- a marker that is missing, one that is reserved, a container too many, a size and a content that are missing
    ∷ at_value (extent_at [] most_open 0) ∷ at_value (extent_at (0xC0 ∷ 0xEF ∷ []) most_open 1) ∷ at_value (extent_at (0x90 ∷ []) 0 0)
    ∷ at_value (extent_at (0xD1 ∷ 0x00 ∷ []) most_open 0) ∷ at_value (extent_at (0x82 ∷ 0x61 ∷ []) most_open 0)
    -- where a key is wanted
    ∷ at_key (key_extent_at (0xD0 ∷ 0x01 ∷ 0x61 ∷ []) 0) ∷ at_key (key_extent_at (0x90 ∷ []) 0) ∷ []
    ≡ returned (leaf L.String 1 3) ∷ returned (container C.List 2 2)
    ∷ refused 7 0 ∷ refused 8 1 ∷ refused 9 0
    ∷ refused 7 0 ∷ refused 7 0
    ∷ returned (leaf L.String 2 1) ∷ refused 11 0 ∷ []
unfolding extent_at key_extent_at leaf_span container_extent marker_of lookup unsigned_at big_endian
hold = refl
