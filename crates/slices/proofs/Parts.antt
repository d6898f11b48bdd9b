-- Laws of parts, of the tests that a part lies inside a list, and of a run of stores read again. Assumes nothing.
use mathlib.Core.Path.{◌≡◌, refl, sym, ap, ◌∙◌}
use mathlib.Core.Bool.{Bool, true, false}
use mathlib.Core.List.{List, [], ◌∷◌, ◌++◌, append_assoc}
use Prim.Native.Nat.{ℕ, suc, ◌+◌, ◌-◌, ◌≤◌, ◌<◌}
use native.Mathlib.Numerals.{add-one, unary_clauses}
use native.Mathlib.Omega.{arith}
use lib.Dec.{ltb, lit<}
use lib.ListN.{length, get_or, take, drop, set, length-drop, length-append, length-take, drop_of_length-le, get_or-eq_default}
use lib.Seq.{drop-cons, sets, sets-eq, get_or-drop, get_or-take, length-take-le, take_all, take-nil, take_at, drop_at, drop-append-add, drop-drop}
use borrow.Author.Tests.{le-leb, lt-leb, leb-true, leb-false, ltb-true, ltb-false}
use Rattle.slices.specs.Parts.{part, reaches, fits, front}

-- a part that lies inside the list has its full size
pub length_part : (s : List ℕ) (start size : ℕ) → start + size ≤ length s → length (part s start size) ≡ size
length_part s start size h = length-take-le size (drop start s) (omega (arith, length-drop start s))

-- a part's first element, and the rest of it
pub part-cons : (s : List ℕ) (start size : ℕ) → start < length s → part s start (suc size) ≡ get_or s start 0 ∷ part s (start + 1) size
part-cons s start size h = rw (add-one start, drop-cons s start 0 h)

-- an element of a part is one of the list's
pub get_d_part : (s : List ℕ) (start size i : ℕ) → i < size → get_or (part s start size) i 0 ≡ get_or s (start + i) 0
get_d_part s start size i h = get_or-take size (drop start s) i 0 h ∙ get_or-drop start s i 0

-- a part of bytes is bytes
pub bytes-part : (s : List ℕ) (start size : ℕ) → ((i : ℕ) → get_or s i 0 < 256) → (i : ℕ) → get_or (part s start size) i 0 < 256
bytes-part s start size h i = by (ltb i size) refl
  where
    by : (t : Bool) → ltb i size ≡ t → get_or (part s start size) i 0 < 256
    by true e = rw (get_d_part s start size i (ltb-true i size e)) (h (start + i))
    by false e =
        let l : length (part s start size) ≤ i = omega (arith, length-take size (drop start s), ltb-false i size e) in
        rw (get_or-eq_default (part s start size) 0 l) (lit< tt)

-- a part that starts past the list is empty
pub part-past : (s : List ℕ) (start size : ℕ) → length s ≤ start → part s start size ≡ []
part-past s start size h = ap (take size) (drop_of_length-le s h) ∙ take-nil {A = ℕ} size

-- a part that runs past the end is cut there
pub part_cut : (s : List ℕ) (start size : ℕ) → length s - start ≤ size → part s start (length s - start) ≡ part s start size
part_cut s start size h =
    let e : length (drop start s) ≡ length s - start = length-drop start s in
    take_all (length s - start) (drop start s) (omega arith) ∙ sym (take_all size (drop start s) (omega arith))

-- a run of stores, read again
pub part-sets : (d : List ℕ) (at : ℕ) (v : List ℕ) → at + length v ≤ length d → part (sets d at v) at (length v) ≡ v
part-sets d at v h =
    ap (λ (l : List ℕ). part l at (length v)) (sets-eq v d at h ∙ append_assoc (take at d) v (drop (at + length v) d))
    ∙ ap (take (length v)) (drop_at (take at d) (v ++ drop (at + length v) d) at (length-take-le at d (omega arith)))
    ∙ take_at v (drop (at + length v) d) (length v) refl

-- two runs of stores, one behind the other, are one
pub sets-append : (v w d : List ℕ) (at : ℕ) → sets (sets d at v) (at + length v) w ≡ sets d at (v ++ w)
sets-append [] w d at = simp unary_clauses
sets-append (x ∷ v) w d at =
    let e : at + suc (length v) ≡ suc at + length v = omega arith in
    rw e (sets-append v w (set d at x) (suc at))

-- a run of stores behind what stands in front
pub sets-front : (v w d : List ℕ) → length v + length w ≤ length d → sets (front v d) (length v) w ≡ front (v ++ w) d
sets-front v w d h =
    let k : length w ≤ length (drop (length v) d) = omega (arith, length-drop (length v) d) in
    let l : length (front v d) ≡ length v + length (drop (length v) d) = length-append v (drop (length v) d) in
    let r : drop (length v + length w) (front v d) ≡ drop (length (v ++ w)) d =
    drop-append-add v (drop (length v) d) (length w) ∙ drop-drop (length w) (length v) d ∙ rw length-append refl in
    sets-eq w (front v d) (length v) (omega arith) ∙ rw (take_at v (drop (length v) d) (length v) refl, r) refl

-- ---- the tests
pub reaches-yes : (s : List ℕ) (start size : ℕ) → start + size ≤ length s → reaches s start size ≡ true
reaches-yes s start size h = le-leb (start + size) (length s) h

pub reaches-no : (s : List ℕ) (start size : ℕ) → length s < start + size → reaches s start size ≡ false
reaches-no s start size h = lt-leb (start + size) (length s) h

pub reaches-le : (s : List ℕ) (start size : ℕ) → reaches s start size ≡ true → start + size ≤ length s
reaches-le s start size e = leb-true (start + size) (length s) e

pub reaches-lt : (s : List ℕ) (start size : ℕ) → reaches s start size ≡ false → length s < start + size
reaches-lt s start size e = leb-false (start + size) (length s) e

module _ (s : List ℕ) (start size : ℕ) (d : List ℕ) (at : ℕ) where
  pub fits-yes : start + size ≤ length s → at + size ≤ length d → fits s start size d at ≡ true
  fits-yes h k = rw (reaches-yes s start size h, reaches-yes d at size k)

-- ---- the loop of the copy: what is left to copy, copied now, gives what the whole copy gives
abbrev pub Copying : List ℕ → ℕ → ℕ → List ℕ → ℕ → List ℕ → ℕ → Type 0
Copying s start size d₀ at d i = sets d (at + i) (part s (start + i) (size - i)) ≡ sets d₀ at (part s start size)

pub copying-none : (s : List ℕ) (start size : ℕ) (d : List ℕ) (at : ℕ) → Copying s start size d at d 0
copying-none s start size d at = simp unary_clauses

pub copying-next : (s : List ℕ) (start size : ℕ) (d₀ : List ℕ) (at : ℕ) (d : List ℕ) (i : ℕ) → i < size → start + i < length s
    → Copying s start size d₀ at d i → Copying s start size d₀ at (set d (at + i) (get_or s (start + i) 0)) (i + 1)
copying-next s start size d₀ at d i h k w =
    let e : size - i ≡ suc (size - (i + 1)) = omega arith in
    let x : at + (i + 1) ≡ suc (at + i) = omega arith in
    let y : start + (i + 1) ≡ start + i + 1 = omega arith in
    rw (x, y) (sym (ap (λ (l : List ℕ). sets d (at + i) l) (ap (part s (start + i)) e ∙ part-cons s (start + i) (size - (i + 1)) k)) ∙ w)

pub copying-done : (s : List ℕ) (start size : ℕ) (d₀ : List ℕ) (at : ℕ) (d : List ℕ) (i : ℕ) → i ≡ size
    → Copying s start size d₀ at d i → d ≡ sets d₀ at (part s start size)
copying-done s start size d₀ at d i e w =
    let z : size - i ≡ 0 = omega arith in
    (rw z refl) ∙ w
