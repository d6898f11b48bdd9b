-- Laws of a value's offsets: put through a function that changes nothing, and forgotten after they were moved. Assumes nothing.
use mathlib.Core.Path.{◌≡◌, refl, ap}
use Prim.Native.Nat.{ℕ}
use Rattle.markers.specs.Value.{Value, null, boolean, integer, float, bytes, string, list, dictionary, structure, Items, no_items, item, Entries, no-entries, entry, relocate, relocate_items, relocate_entries, forget}

module _ (f : ℕ → ℕ) (id : (n : ℕ) → f n ≡ n) where
  mutual
    unfolding relocate

    -- offsets that stay
    pub relocate-same : (v : Value) → relocate f v ≡ v
    relocate-same null = refl
    relocate-same (boolean b) = refl
    relocate-same (integer z) = refl
    relocate-same (float bits) = refl
    relocate-same (bytes start content) = ap (λ (n : ℕ). bytes n content) (id start)
    relocate-same (string start content) = ap (λ (n : ℕ). string n content) (id start)
    relocate-same (list vs) = ap list (relocate-same-items vs)
    relocate-same (dictionary es) = ap dictionary (relocate-same-entries es)
    relocate-same (structure tag vs) = ap (structure tag) (relocate-same-items vs)

    pub relocate-same-items : (vs : Items) → relocate_items f vs ≡ vs
    relocate-same-items no_items = refl
    relocate-same-items (item at v vs) = rw (id at, relocate-same v, relocate-same-items vs)

    pub relocate-same-entries : (es : Entries) → relocate_entries f es ≡ es
    relocate-same-entries no-entries = refl
    relocate-same-entries (entry at start key place v es) = rw (id at, id start, id place, relocate-same v, relocate-same-entries es)

module _ (f : ℕ → ℕ) where
  mutual
    unfolding relocate

    -- moved offsets are forgotten like any others
    pub forget-moved : (v : Value) → forget (relocate f v) ≡ forget v
    forget-moved null = refl
    forget-moved (boolean b) = refl
    forget-moved (integer z) = refl
    forget-moved (float bits) = refl
    forget-moved (bytes start content) = refl
    forget-moved (string start content) = refl
    forget-moved (list vs) = ap list (forget-moved-items vs)
    forget-moved (dictionary es) = ap dictionary (forget-moved-entries es)
    forget-moved (structure tag vs) = ap (structure tag) (forget-moved-items vs)

    pub forget-moved-items : (vs : Items) → relocate_items (λ _. 0) (relocate_items f vs) ≡ relocate_items (λ _. 0) vs
    forget-moved-items no_items = refl
    forget-moved-items (item at v vs) = rw (forget-moved v, forget-moved-items vs)

    pub forget-moved-entries : (es : Entries) → relocate_entries (λ _. 0) (relocate_entries f es) ≡ relocate_entries (λ _. 0) es
    forget-moved-entries no-entries = refl
    forget-moved-entries (entry at start key place v es) = rw (forget-moved v, forget-moved-entries es)
