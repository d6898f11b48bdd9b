-- The values of PackStream version 1 as they lie in a message: document 01, "Values". Every value and key that a container holds has
-- the offset of its marker, which names its place; Bytes and Strings have the offset of their content. Assumes nothing.
use Rattle.std.specs.Prelude.{ℕ, zero, suc, Bool, List, ℤ}

mutual
  pub data Value : Type 0 where
    null : Value
    boolean : Bool → Value
    integer : ℤ → Value
    -- its 64 bits
    float : ℕ → Value
    -- the content's offset, and the content
    bytes : ℕ → List ℕ → Value
    string : ℕ → List ℕ → Value
    list : Items → Value
    dictionary : Entries → Value
    -- the tag, and the fields
    structure : ℕ → Items → Value

  -- values in order, each after its offset
  pub data Items : Type 0 where
    no_items : Items
    item : ℕ → Value → Items → Items

  -- entries in order: a key's offset, its content's offset and its content; then the value's offset, and the value
  pub data Entries : Type 0 where
    no-entries : Entries
    entry : ℕ → ℕ → List ℕ → ℕ → Value → Entries → Entries

-- how many items there are
unfoldable pub count : Items → ℕ
count no_items = zero
count (item at v vs) = suc (count vs)

-- how many entries there are
unfoldable pub count_entries : Entries → ℕ
count_entries no-entries = zero
count_entries (entry at start key place v es) = suc (count_entries es)

-- the first one's offset; where there is none, the offset past them
abbrev pub first : Items → ℕ → ℕ
first no_items end = end
first (item at v vs) end = at

-- the same of entries
abbrev pub first_entry : Entries → ℕ → ℕ
first_entry no-entries end = end
first_entry (entry at start key place v es) end = at

-- the value with every offset put through f
unfoldable mutual
  pub relocate : (ℕ → ℕ) → Value → Value
  relocate f null = null
  relocate f (boolean b) = boolean b
  relocate f (integer z) = integer z
  relocate f (float bits) = float bits
  relocate f (bytes start content) = bytes (f start) content
  relocate f (string start content) = string (f start) content
  relocate f (list vs) = list (relocate_items f vs)
  relocate f (dictionary es) = dictionary (relocate_entries f es)
  relocate f (structure tag vs) = structure tag (relocate_items f vs)

  pub relocate_items : (ℕ → ℕ) → Items → Items
  relocate_items f no_items = no_items
  relocate_items f (item at v vs) = item (f at) (relocate f v) (relocate_items f vs)

  pub relocate_entries : (ℕ → ℕ) → Entries → Entries
  relocate_entries f no-entries = no-entries
  relocate_entries f (entry at start key place v es) =
      entry (f at) (f start) key (f place) (relocate f v) (relocate_entries f es)

-- what a value is wherever it lies: its offsets are forgotten
abbrev pub forget : Value → Value
forget v = relocate (λ _. 0) v
