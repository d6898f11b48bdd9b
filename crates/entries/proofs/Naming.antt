-- Laws of names: bytes of a message compared with those of a name, and the tables of the names. Assumes nothing.
use mathlib.Core.Path.{◌≡◌, refl, sym, ap, ◌∙◌}
use mathlib.Core.Bool.{Bool, true, false, cond}
use mathlib.Core.Logic.{⊎_elim}
use mathlib.Core.List.{List, [], ◌∷◌, ◌++◌}
use Prim.Native.Nat.{ℕ, zero, suc, ◌+◌, ◌-◌, ◌≤◌, ◌<◌}
use native.Mathlib.Nat.{le_refl, zero-add, eq-or-lt_of_le}
use native.Mathlib.Omega.{arith}
use lib.Dec.{leb, eqb}
use lib.ListN.{length, get_or, drop, length-drop}
use lib.Seq.{drop-cons, drop-drop, get_or-drop}
use borrow.Author.Tests.{eqb-true, eqb-false, leb-true}
use Rattle.slices.specs.Parts.{part}
use Rattle.slices.proofs.Below.{below}
use Rattle.slices.specs.Equality.{same}
use Rattle.markers.proofs.Markers.{tabulate, agree}
use Rattle.slices.proofs.Equality.{same_length}
use denote.Enum.Declared.{tag_of}
use Rattle.entries.specs.Numbering.{names, name_of, index_of, text_of}
use Rattle.entries.specs.contracts.names.Name.{the_type}
use Rattle.entries.specs.declared.names.Name.{Name}
use Rattle.entries.specs.declared.names.Name.TheVariants as N

-- ---- the bytes of the names
-- all of them, a space behind each
unfoldable pub spaced : List (List ℕ) → List ℕ
spaced [] = []
spaced (k ∷ ks) = k ++ 0x20 ∷ spaced ks

abbrev pub written : List ℕ
written = spaced names

-- where each begins
abbrev pub starts : List ℕ
starts = 0 ∷ 11 ∷ 18 ∷ 28 ∷ 40 ∷ 48 ∷ 58 ∷ 69 ∷ 81 ∷ 86 ∷ 89 ∷ 91 ∷ []

abbrev pub start_of : ℕ → ℕ
start_of k = get_or starts k 0

pub written-length : length written ≡ 95
unfolding spaced
written-length = refl

-- each lies in what is written
fits : ℕ → Bool
fits k = leb (start_of k + length (name_of k)) 95

module _ (k : ℕ) (h : k < 12) where
  pub its-room : (size : ℕ) → size ≡ length (name_of k) → start_of k + size ≤ length written
  unfolding fits
  its-room size e = let l = leb-true (start_of k + length (name_of k)) 95 (below fits 12 refl k h) in omega (arith, written-length)

  pub name-is : (size : ℕ) → size ≡ length (name_of k) → part written (start_of k) size ≡ name_of k
  unfolding tabulate spaced
  name-is size e = rw e (agree (λ j. part written (start_of j) (length (name_of j))) name_of 12 refl k h)

-- ---- the number of a name
index-bound : (key : List ℕ) (ks : List (List ℕ)) → index_of key ks ≤ length ks
unfolding index_of
index-bound key [] = le_refl 0
index-bound key (k ∷ ks) = by (same key k) (index-bound key ks)
  where
    by : (b : Bool) → index_of key ks ≤ length ks → cond b 0 (suc (index_of key ks)) ≤ suc (length ks)
    by true h = omega arith
    by false h = omega arith

pub number_bound : (number : ℕ) (key : List ℕ) → number ≡ index_of key names → number < 13
number_bound number key e = omega (arith, index-bound key names)

pub index-of-name : (k : ℕ) → k < 12 → index_of (name_of k) names ≡ k
unfolding tabulate index_of same
index-of-name k h = agree (λ j. index_of (name_of j) names) (λ j. j) 12 refl k h

-- the names that the code knows, by the numbers that it gives them
pub index-of-text : (name : Name) → index_of (text_of name) names ≡ tag_of the_type name
index-of-text N.UserAgent = index-of-name 0 (omega arith)
index-of-text N.Scheme = index-of-name 1 (omega arith)
index-of-text N.Principal = index-of-name 2 (omega arith)
index-of-text N.Credentials = index-of-name 3 (omega arith)
index-of-text N.Routing = index-of-name 4 (omega arith)
index-of-text N.Bookmarks = index-of-name 5 (omega arith)
index-of-text N.TxTimeout = index-of-name 6 (omega arith)
index-of-text N.TxMetadata = index-of-name 7 (omega arith)
index-of-text N.Mode = index-of-name 8 (omega arith)
index-of-text N.Db = index-of-name 9 (omega arith)
index-of-text N.N = index-of-name 10 (omega arith)
index-of-text N.Qid = index-of-name 11 (omega arith)

-- a key with the number of a name is that name
pub name-of-index : (key : List ℕ) (ks : List (List ℕ)) → index_of key ks < length ks → same key (get_or ks (index_of key ks) []) ≡ true
unfolding index_of
name-of-index key [] h = absurd (omega arith)
name-of-index key (k ∷ ks) h = by (same key k) refl h (name-of-index key ks)
  where
    by : (t : Bool) → same key k ≡ t → cond t 0 (suc (index_of key ks)) < suc (length ks)
        → (index_of key ks < length ks → same key (get_or ks (index_of key ks) []) ≡ true)
        → same key (get_or (k ∷ ks) (cond t 0 (suc (index_of key ks))) []) ≡ true
    by true e h later = e
    by false e h later = later (omega arith)

-- ---- the names of one size
-- how many stand before the first of this size
unfoldable before_size : ℕ → List (List ℕ) → ℕ
before_size size [] = zero
before_size size (k ∷ ks) = cond (eqb (length k) size) zero (suc (before_size size ks))

before-bound : (size : ℕ) (ks : List (List ℕ)) → before_size size ks ≤ length ks
unfolding before_size
before-bound size [] = le_refl 0
before-bound size (k ∷ ks) = by (eqb (length k) size) (before-bound size ks)
  where
    by : (b : Bool) → before_size size ks ≤ length ks → cond b 0 (suc (before_size size ks)) ≤ suc (length ks)
    by true h = omega arith
    by false h = omega arith

-- the one behind them has this size
has-size : (size : ℕ) (ks : List (List ℕ)) → before_size size ks < length ks → length (get_or ks (before_size size ks) []) ≡ size
unfolding before_size
has-size size [] h = absurd (omega arith)
has-size size (k ∷ ks) h = by (eqb (length k) size) refl h (has-size size ks)
  where
    by : (b : Bool) → eqb (length k) size ≡ b → cond b 0 (suc (before_size size ks)) < suc (length ks)
        → (before_size size ks < length ks → length (get_or ks (before_size size ks) []) ≡ size)
        → length (get_or (k ∷ ks) (cond b 0 (suc (before_size size ks))) []) ≡ size
    by true e h later = eqb-true (length k) size e
    by false e h later = later (omega arith)

-- a key of this size is none of them
pass-others : (key : List ℕ) (ks : List (List ℕ))
    → index_of key ks ≡ before_size (length key) ks + index_of key (drop (before_size (length key) ks) ks)
unfolding index_of before_size
pass-others key [] = refl
pass-others key (k ∷ ks) = by (eqb (length k) (length key)) refl (before_size (length key) ks) (pass-others key ks)
  where
    by : (b : Bool) → eqb (length k) (length key) ≡ b → (n : ℕ) → index_of key ks ≡ n + index_of key (drop n ks)
        → cond (same key k) 0 (suc (index_of key ks)) ≡ cond b 0 (suc n) + index_of key (drop (cond b 0 (suc n)) (k ∷ ks))
    by true e n later = sym (zero-add _)
    by false e n later = rw (same_length key k (λ f. eqb-false (length k) (length key) e (sym f))) (omega (arith, later))

-- the first name of each size
abbrev pub firsts : List ℕ
firsts = 12 ∷ 10 ∷ 9 ∷ 11 ∷ 8 ∷ 12 ∷ 1 ∷ 4 ∷ 12 ∷ 2 ∷ 0 ∷ 3 ∷ []

first-is : (size : ℕ) → size < 12 → get_or firsts size 0 ≡ before_size size names
unfolding tabulate before_size
first-is size h = agree (λ n. get_or firsts n 0) (λ n. before_size n names) 12 refl size h

-- for each name the next one of its size
abbrev pub nexts : List ℕ
nexts = 6 ∷ 12 ∷ 5 ∷ 7 ∷ 12 ∷ 12 ∷ 12 ∷ 12 ∷ 12 ∷ 12 ∷ 12 ∷ 12 ∷ []

next-is : (k : ℕ) → k < 12 → get_or nexts k 0 ≡ suc k + before_size (length (name_of k)) (drop (suc k) names)
unfolding tabulate before_size
next-is k h = agree (λ j. get_or nexts j 0) (λ j. suc j + before_size (length (name_of j)) (drop (suc j) names)) 12 refl k h

pub next-later : (k : ℕ) → k < 12 → k < get_or nexts k 0
next-later k h = omega (arith, next-is k h)

-- no name has more than 11 bytes
short : ℕ → Bool
short k = leb (length (name_of k)) 11

at_most : (k : ℕ) → k < 12 → length (name_of k) ≤ 11
unfolding short
at_most k h = leb-true (length (name_of k)) 11 (below short 12 refl k h)

-- ---- the search
-- the names from the k-th on decide
abbrev Deciding : List ℕ → ℕ → Type 0
Deciding key k = index_of key names ≡ k + index_of key (drop k names)

-- and that one, if there is one, is as long as the key
pub record Finding (key : List ℕ) (k : ℕ) : Type 0 where
  pub within : k ≤ 12
  pub deciding : Deciding key k
  pub sized : k < 12 → length key ≡ length (name_of k)

module _ (key : List ℕ) where
  -- from j on, the next to try is the first as long as the key
  try-next : (j k : ℕ) → j ≤ 12 → Deciding key j → k ≡ j + before_size (length key) (drop j names) → Finding key k
  try-next j k h so_far e =
      let rest : length (drop j names) ≡ 12 - j = length-drop j names in
      let b = before_size (length key) (drop j names) in
      let l : b ≤ length (drop j names) = before-bound (length key) (drop j names) in
      let past : index_of key (drop j names) ≡ b + index_of key (drop (j + b) names) = rw (← drop-drop b j names) (pass-others key (drop j names)) in
      record {
        within = omega (arith, rest, l);
        deciding = rw e (omega (arith, so_far, past));
        sized = λ i. let m : b < length (drop j names) = omega (arith, rest) in
            sym (has-size (length key) (drop j names) m) ∙ rw (e, get_or-drop j names b []);
      }

  decides : Deciding key 0
  decides = sym (zero-add _)

  pub none_left : (k : ℕ) → Finding key k → 12 ≤ k → 12 ≡ index_of key names
  unfolding index_of
  none_left k f h = let e : k ≡ 12 = omega (arith, f.within) in sym (f.deciding ∙ rw e)

  -- no name is as long as a key of more than 11 bytes
  none-as-long : (k : ℕ) → Finding key k → 11 < length key → 12 ≡ index_of key names
  none-as-long k f h =
      none_left k f (⊎_elim (λ (e : k ≡ 12). omega arith) (λ l. absurd (omega (arith, at_most k l, f.sized l))) (eq-or-lt_of_le f.within))

  pub too_long : (size : ℕ) → length key ≡ size → 11 < size → 12 ≡ index_of key names
  too_long size e h = none-as-long _ (try-next 0 _ (omega arith) decides refl) (omega arith)

  pub try-first : (size : ℕ) → length key ≡ size → size ≤ 11 → Finding key (get_or firsts size 0)
  try-first size e h = try-next 0 _ (omega arith) decides (rw e (first-is size (omega arith) ∙ sym (zero-add _)))

  module _ (k : ℕ) (f : Finding key k) (h : k < 12) where
    next : index_of key (drop k names) ≡ cond (same key (name_of k)) 0 (suc (index_of key (drop (suc k) names)))
    unfolding index_of
    next = ap (index_of key) (drop-cons names k [] h)

    pub found_name : same key (name_of k) ≡ true → k ≡ index_of key names
    found_name e =
        let z : index_of key (drop k names) ≡ 0 = next ∙ rw e in
        sym (f.deciding ∙ omega arith)

    pub other_name : same key (name_of k) ≡ false → Finding key (get_or nexts k 0)
    other_name e =
        let z : index_of key (drop k names) ≡ suc (index_of key (drop (suc k) names)) = next ∙ rw e in
        try-next (suc k) _ h (omega (arith, f.deciding, z)) (rw (f.sized h) (next-is k h))
