-- The code's views agree with the values: each check of a view is the check of the value, and so is each extra. Assumes nothing.
use mathlib.Core.Path.{◌≡◌, refl}
use mathlib.Core.Bool.{Bool, true, false, cond}
use Prim.Native.Nat.{ℕ, ◌<◌}
use native.Mathlib.Omega.{arith}
use lib.Dec.{leb}
use lib.IntN.{ℤ, negsuc}
use Rattle.refusal.specs.Answer.{Answer, returned, refused, and_then}
use Rattle.slices.specs.Equality.{same}
use Rattle.markers.specs.Value.{Value, boolean, integer, float, bytes, string, list, dictionary, structure, Items, no_items, item}
use Rattle.markers.proofs.ByKind.{of-each}
use Rattle.bolt.specs.Ranges.{minus_one_or}
use Rattle.entries.specs.Names as Name
use Rattle.entries.specs.Numbering.{name_of}
use Rattle.entries.specs.Lookup.{Held, absent, held, Lookup}
use Rattle.entries.specs.View.{wrong_in, seen}
use Rattle.requests.specs.Checks.{Complaints, out_of_range, non_negative, string_at, integer_at, mode_at, required, strings_in, optional}
use Rattle.requests.specs.Requests.{text, list_of_strings, hello, transaction, batch, begin, discard, pull}
use Rattle.requests.specs.Requests as Meaning
use Rattle.requests.specs.Private.Views.{Views, string_seen, dictionary_seen, unless_item, list_of_strings_seen, unless_none, mode_seen, integer_seen, hello_seen, transaction_seen, batch_seen, begin_seen, discard_seen, pull_seen}
use Rattle.std.specs.Prelude.{Some, None}
use Rattle.entries.specs.declared.view.Mode.TheVariants as M

-- ---- an entry that may be absent, and what follows it: at Null and where there is none, and by what its check finds
module _ {A B D : Type 0} (check : ℕ → Value → Answer A) (n : B) (some : A → B) (f : B → Answer D) where
  optional-alike : {B' : Type 0} (n' : B') (some' : A → B') (f' : B' → Answer D) → f n ≡ f' n' → ((a : A) → f (some a) ≡ f' (some' a))
      → (h : Held) → and_then (optional check n some h) f ≡ and_then (optional check n' some' h) f'
  optional-alike n' some' f' none there absent = none
  optional-alike n' some' f' none there (held place v) =
      of-each (λ w. and_then (optional check n some (held place w)) f ≡ and_then (optional check n' some' (held place w)) f')
      none (λ x. by (check place (boolean x))) (λ z. by (check place (integer z))) (λ bits. by (check place (float bits))) (λ p t. by (check place (bytes p t)))
      (λ p t. by (check place (string p t))) (λ vs. by (check place (list vs))) (λ es. by (check place (dictionary es))) (λ tag vs. by (check place (structure tag vs))) v
    where
      by : (x : Answer A) → and_then (and_then x (λ a. returned (some a))) f ≡ and_then (and_then x (λ a. returned (some' a))) f'
      by (returned a) = there a
      by (refused number at) = refl

  -- one that is required
  required-alike : (c : Complaints) (at : ℕ) (f' : A → Answer D) → f n ≡ refused c.missing at → ((a : A) → f (some a) ≡ f' a)
      → (h : Held) → and_then (optional check n some h) f ≡ and_then (required c check at h) f'
  required-alike c at f' none there absent = none
  required-alike c at f' none there (held place v) =
      of-each (λ w. and_then (optional check n some (held place w)) f ≡ and_then (required c check at (held place w)) f')
      none (λ x. by (check place (boolean x))) (λ z. by (check place (integer z))) (λ bits. by (check place (float bits))) (λ p t. by (check place (bytes p t)))
      (λ p t. by (check place (string p t))) (λ vs. by (check place (list vs))) (λ es. by (check place (dictionary es))) (λ tag vs. by (check place (structure tag vs))) v
    where
      by : (x : Answer A) → and_then (and_then x (λ a. returned (some a))) f ≡ and_then x f'
      by (returned a) = there a
      by (refused number at) = refl

module _ (c : Complaints) where
  -- ---- the checks of entries that may be absent
  string-seen : (h : Held) → string_seen c (seen h) ≡ text c h
  string-seen absent = refl
  string-seen (held place v) =
      of-each (λ w. string_seen c (seen (held place w)) ≡ text c (held place w))
      refl (λ _. refl) (λ _. refl) (λ _. refl) (λ _ _. refl) (λ _ _. refl) (λ _. refl) (λ _. refl) (λ _ _. refl) v

  dictionary-seen : (h : Held) → dictionary_seen c (seen h) ≡ Meaning.dictionary c h
  dictionary-seen absent = refl
  dictionary-seen (held place v) =
      of-each (λ w. dictionary_seen c (seen (held place w)) ≡ Meaning.dictionary c (held place w))
      refl (λ _. refl) (λ _. refl) (λ _. refl) (λ _ _. refl) (λ _ _. refl) (λ _. refl) (λ _. refl) (λ _ _. refl) v

  -- a name that is not known yet
  since-seen : (b : Bool) (h : Held) → dictionary_seen c (cond b (seen h) None) ≡ Meaning.dictionary c (cond b h absent)
  since-seen true h = dictionary-seen h
  since-seen false h = refl

  -- the first item that is no String
  strings-seen : (place : ℕ) (vs : Items) → unless_item c place (wrong_in vs) ≡ and_then (strings_in c place vs) (λ at. returned (Some at))
  unfolding wrong_in strings_in
  strings-seen place no_items = refl
  strings-seen place (item at v vs) =
      of-each (λ w. unless_item c place (wrong_in (item at w vs)) ≡ and_then (strings_in c place (item at w vs)) (λ p. returned (Some p)))
      refl (λ _. refl) (λ _. refl) (λ _. refl) (λ _ _. refl) (λ _ _. strings-seen place vs) (λ _. refl) (λ _. refl) (λ _ _. refl) v

  list-seen : (h : Held) → list_of_strings_seen c (seen h) ≡ list_of_strings c h
  list-seen absent = refl
  list-seen (held place v) =
      of-each (λ w. list_of_strings_seen c (seen (held place w)) ≡ list_of_strings c (held place w))
      refl (λ _. refl) (λ _. refl) (λ _. refl) (λ _ _. refl) (λ _ _. refl) (strings-seen place) (λ _. refl) (λ _ _. refl) v

  -- a word that names a mode, or none
  word-seen : (place : ℕ) (r w : Bool)
      → unless_none c place (cond r (Some M.Read) (cond w (Some M.Write) None)) ≡ and_then (cond r (returned M.Read) (cond w (returned M.Write) (out_of_range c place))) (λ mode. returned (Some mode))
  word-seen place true w = refl
  word-seen place false true = refl
  word-seen place false false = refl

  mode-seen : (h : Held) → mode_seen c (seen h) ≡ optional (mode_at c) None Some h
  mode-seen absent = refl
  mode-seen (held place v) =
      of-each (λ w. mode_seen c (seen (held place w)) ≡ optional (mode_at c) None Some (held place w))
      refl (λ _. refl) (λ _. refl) (λ _. refl) (λ _ _. refl) (λ start content. word-seen place (same content Name.read) (same content Name.write)) (λ _. refl) (λ _. refl) (λ _ _. refl) v

  -- a number in its range, or out of it
  number-seen : (place : ℕ) (z : ℤ) (b : Bool) → cond b (returned (Some z)) (out_of_range c place) ≡ and_then (cond b (returned z) (out_of_range c place)) (λ x. returned (Some x))
  number-seen place z true = refl
  number-seen place z false = refl

  integer-seen : (range : ℤ → Bool) (h : Held) → integer_seen c range (seen h) ≡ optional (integer_at c range) None Some h
  integer-seen range absent = refl
  integer-seen range (held place v) =
      of-each (λ w. integer_seen c range (seen (held place w)) ≡ optional (integer_at c range) None Some (held place w))
      refl (λ _. refl) (λ z. number-seen place z (range z)) (λ _. refl) (λ _ _. refl) (λ _ _. refl) (λ _. refl) (λ _. refl) (λ _ _. refl) v

  -- ---- the extras, where the views are those of the values under the known names
  module _ (e : Views) (e' : Lookup) (a : (k : ℕ) → k < 12 → e (name_of k) ≡ seen (e' (name_of k))) where
    pub hello-seen : (minor at : ℕ) → hello_seen c minor at e ≡ hello c minor at e'
    unfolding hello_seen hello
    hello-seen minor at =
        rw (
          a 0 (omega arith),
          a 1 (omega arith),
          a 2 (omega arith),
          a 3 (omega arith),
          a 4 (omega arith),
          string-seen (e' Name.user-agent),
          string-seen (e' Name.scheme),
          string-seen (e' Name.principal),
          string-seen (e' Name.credentials),
          since-seen (leb 1 minor) (e' Name.routing),
        )
        (required-alike (string_at c) None Some _ c at _ refl (λ agent. refl) (e' Name.user-agent))

    pub transaction-seen : transaction_seen c e ≡ transaction c e'
    unfolding transaction_seen transaction
    transaction-seen =
        rw (
          a 5 (omega arith),
          a 6 (omega arith),
          a 7 (omega arith),
          a 8 (omega arith),
          a 9 (omega arith),
          list-seen (e' Name.bookmarks),
          integer-seen non_negative (e' Name.tx-timeout),
          dictionary-seen (e' Name.tx-metadata),
          mode-seen (e' Name.mode),
          string-seen (e' Name.db),
        )

    pub batch-seen : (at : ℕ) → batch_seen c at e ≡ batch c at e'
    unfolding batch_seen batch
    batch-seen at =
        rw (a 10 (omega arith), a 11 (omega arith), integer-seen (minus_one_or 1) (e' Name.n), integer-seen (minus_one_or 0) (e' Name.qid))
        (required-alike (integer_at c (minus_one_or 1)) None Some _ c at _ refl
        (λ n. optional-alike (integer_at c (minus_one_or 0)) None Some _ (negsuc 0) (λ qid. qid) (λ qid. returned (record { n = n; qid = qid })) refl (λ qid. refl) (e' Name.qid))
        (e' Name.n))

    pub begin-seen : (at : ℕ) → begin_seen c at e ≡ begin c at e'
    begin-seen at = rw transaction-seen

    pub discard-seen : (at : ℕ) → discard_seen c at e ≡ discard c at e'
    discard-seen at = rw (batch-seen at)

    pub pull-seen : (at : ℕ) → pull_seen c at e ≡ pull c at e'
    pull-seen at = rw (batch-seen at)
