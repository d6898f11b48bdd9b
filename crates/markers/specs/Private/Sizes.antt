-- Which sizes the content of a value can have, by its kind. Assumes nothing.
use Rattle.std.specs.Prelude.{ℕ, Bool, true, eqb}
use Rattle.numbers.specs.Access.{is_width}
use Rattle.markers.specs.declared.kind.Leaf.{Leaf}
use Rattle.markers.specs.declared.kind.Leaf.TheVariants.{Null, Boolean, Integer, Float, Bytes, String}

-- n bytes can be the content of this kind: the table leaves it to the size for Bytes and Strings alone
abbrev pub has_size : Leaf → ℕ → Bool
has_size Null n = true
has_size Boolean n = eqb n 1
has_size Integer n = is_width n
has_size Float n = eqb n 8
has_size Bytes n = true
has_size String n = true
