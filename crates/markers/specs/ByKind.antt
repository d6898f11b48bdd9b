-- A value by its kind: what becomes of it where it is of the kind that is asked for, and of any other. Document 01, "Values". Assumes
-- nothing.
use Rattle.std.specs.Prelude.{ℕ, Bool, List, ℤ}
use Rattle.markers.specs.Value.{Value, null, boolean, integer, float, bytes, string, list, dictionary, structure, Items, Entries}

-- what there is for Null, Boolean, Integer, Float, Bytes, String, List, Dictionary and Structure
abbrev pub by_kind : {A : Type 0} → A → (Bool → A) → (ℤ → A) → (ℕ → A) → (ℕ → List ℕ → A) → (ℕ → List ℕ → A) → (Items → A) → (Entries → A) → (ℕ → Items → A) → Value → A
by_kind n b i f y s l d t null = n
by_kind n b i f y s l d t (boolean x) = b x
by_kind n b i f y s l d t (integer z) = i z
by_kind n b i f y s l d t (float bits) = f bits
by_kind n b i f y s l d t (bytes start content) = y start content
by_kind n b i f y s l d t (string start content) = s start content
by_kind n b i f y s l d t (list vs) = l vs
by_kind n b i f y s l d t (dictionary es) = d es
by_kind n b i f y s l d t (structure tag vs) = t tag vs

module _ {A : Type 0} where
  -- Null, and else
  abbrev pub on_null : A → A → Value → A
  on_null then else = by_kind then (λ _. else) (λ _. else) (λ _. else) (λ _ _. else) (λ _ _. else) (λ _. else) (λ _. else) (λ _ _. else)

  -- an Integer, and else
  abbrev pub on_integer : (ℤ → A) → A → Value → A
  on_integer then else = by_kind else (λ _. else) then (λ _. else) (λ _ _. else) (λ _ _. else) (λ _. else) (λ _. else) (λ _ _. else)

  -- a String, by its content's offset and its content, and else
  abbrev pub on_string : (ℕ → List ℕ → A) → A → Value → A
  on_string then else = by_kind else (λ _. else) (λ _. else) (λ _. else) (λ _ _. else) then (λ _. else) (λ _. else) (λ _ _. else)

  -- a List, by its items, and else
  abbrev pub on_list : (Items → A) → A → Value → A
  on_list then else = by_kind else (λ _. else) (λ _. else) (λ _. else) (λ _ _. else) (λ _ _. else) then (λ _. else) (λ _ _. else)

  -- a Dictionary, by its entries, and else
  abbrev pub on_dictionary : (Entries → A) → A → Value → A
  on_dictionary then else = by_kind else (λ _. else) (λ _. else) (λ _. else) (λ _ _. else) (λ _ _. else) (λ _. else) then (λ _ _. else)

  -- a Structure, by its tag and fields, and else
  abbrev pub on_structure : (ℕ → Items → A) → A → Value → A
  on_structure then else = by_kind else (λ _. else) (λ _. else) (λ _. else) (λ _ _. else) (λ _ _. else) (λ _. else) (λ _. else) then
