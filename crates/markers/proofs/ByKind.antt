-- Laws of values by their kinds. Assumes nothing.
use mathlib.Core.Path.{◌≡◌, refl}
use mathlib.Core.Bool.{Bool}
use mathlib.Core.List.{List}
use Prim.Native.Nat.{ℕ}
use lib.IntN.{ℤ}
use Rattle.markers.specs.Value.{Value, null, boolean, integer, float, bytes, string, list, dictionary, structure, Items, Entries}
use Rattle.markers.specs.ByKind.{by_kind}

-- what holds of the values of each kind holds of every value
pub of-each : (P : Value → Type 0) → P null → ((x : Bool) → P (boolean x)) → ((z : ℤ) → P (integer z)) → ((bits : ℕ) → P (float bits))
    → ((start : ℕ) (content : List ℕ) → P (bytes start content)) → ((start : ℕ) (content : List ℕ) → P (string start content))
    → ((vs : Items) → P (list vs)) → ((es : Entries) → P (dictionary es)) → ((tag : ℕ) (vs : Items) → P (structure tag vs)) → (v : Value) → P v
of-each P n b i f y s l d t null = n
of-each P n b i f y s l d t (boolean x) = b x
of-each P n b i f y s l d t (integer z) = i z
of-each P n b i f y s l d t (float bits) = f bits
of-each P n b i f y s l d t (bytes start content) = y start content
of-each P n b i f y s l d t (string start content) = s start content
of-each P n b i f y s l d t (list vs) = l vs
of-each P n b i f y s l d t (dictionary es) = d es
of-each P n b i f y s l d t (structure tag vs) = t tag vs

-- what is done to the outcome may be done to the outcome of each kind
pub natural : {A B : Type 0} (r : A → B) (n : A) (b : Bool → A) (i : ℤ → A) (f : ℕ → A) (y s : ℕ → List ℕ → A) (l : Items → A) (d : Entries → A) (t : ℕ → Items → A) (v : Value)
    → r (by_kind n b i f y s l d t v)
    ≡ by_kind (r n) (λ x. r (b x)) (λ z. r (i z)) (λ x. r (f x)) (λ p c. r (y p c)) (λ p c. r (s p c)) (λ vs. r (l vs)) (λ es. r (d es)) (λ x vs. r (t x vs)) v
natural r n b i f y s l d t v =
    of-each (λ w. r (by_kind n b i f y s l d t w)
    ≡ by_kind (r n) (λ x. r (b x)) (λ z. r (i z)) (λ x. r (f x)) (λ p c. r (y p c)) (λ p c. r (s p c)) (λ vs. r (l vs)) (λ es. r (d es)) (λ x vs. r (t x vs)) w)
    refl (λ _. refl) (λ _. refl) (λ _. refl) (λ _ _. refl) (λ _ _. refl) (λ _. refl) (λ _. refl) (λ _ _. refl) v
