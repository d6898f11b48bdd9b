-- Renumbering an answer is answering under the renumbered table: numbers are given at the complaints, at 14 and at 15, and nothing looks at
-- them. Assumes nothing.
use mathlib.Core.Path.{◌≡◌, refl, ap, ◌∙◌}
use mathlib.Core.Bool.{Bool, true, false, cond, ◌&&◌, ◌||◌, and-eq-true_iff}
use mathlib.Core.List.{List}
use Prim.Native.Nat.{ℕ, ◌≤◌}
use native.Mathlib.Omega.{arith}
use lib.Dec.{leb, eqb}
use lib.IntN.{ℤ, negsuc}
use borrow.Author.Tests.{eqb-true, leb-true, lt-leb}
use Rattle.refusal.specs.Answer.{Answer, returned, refused, and_then, among, Refuses}
use Rattle.slices.specs.Equality.{same}
use Rattle.markers.specs.Value.{Value, Items, no_items, item, Entries}
use Rattle.values.specs.Decode.{decode}
use Rattle.values.specs.Places.{value_fault}
use Rattle.values.proofs.Places.{places as values-places}
use Rattle.markers.proofs.ByKind.{natural}
use Rattle.bolt.specs.Ranges.{minus_one_or}
use Rattle.entries.specs.Names as Name
use Rattle.entries.specs.Lookup.{Held, absent, held, under, Lookup}
use Rattle.markers.specs.ByKind.{on_null, on_integer, on_string, on_list, on_dictionary, on_structure}
use Rattle.requests.specs.Checks.{Complaints, complaints, non_negative, string_at, integer_at, mode_at, dictionary_at, strings_in, list_of_strings_at, required, optional}
use Rattle.requests.specs.Requests.{none, one, three, text, list_of_strings, hello, transaction, batch, begin, discard, pull, extra, run, tagged, request_in}
use Rattle.requests.specs.Requests as Meaning
use Rattle.requests.specs.Renumbering.{renumbered, renamed, was, Claim}
use Rattle.requests.specs.Before as Before
use Rattle.requests.specs.Before.{sixteen}
use Rattle.std.specs.Prelude.{Some, None}
use Rattle.requests.specs.declared.request.Request.{Request}
use Rattle.requests.specs.declared.request.Request.TheVariants as R
use Rattle.requests.proofs.Before.{same-request}

-- ---- checks one after the other, choices, and values by their kinds
module _ (f : ℕ → ℕ) where
  chosen : {A : Type 0} (b : Bool) (x y x' y' : Answer A) → renumbered f x ≡ x' → renumbered f y ≡ y' → renumbered f (cond b x y) ≡ cond b x' y'
  chosen true x y x' y' p q = p
  chosen false x y x' y' p q = q

  and-then : {A B : Type 0} (a : Answer A) (a' : Answer A) (g g' : A → Answer B) → renumbered f a ≡ a' → ((x : A) → renumbered f (g x) ≡ g' x)
      → renumbered f (and_then a g) ≡ and_then a' g'
  and-then {A = A} (returned x) a' g g' e h = h x ∙ ap (λ (a : Answer A). and_then a g') e
  and-then {A = A} (refused number place) a' g g' e h = ap (λ (a : Answer A). and_then a g') e

  module _ {A : Type 0} (e e' : Answer A) (else : renumbered f e ≡ e') (v : Value) where
    on_null_lem : (x x' : Answer A) → renumbered f x ≡ x' → renumbered f (on_null x e v) ≡ on_null x' e' v
    on_null_lem x x' h =
        natural (renumbered f) x (λ _. e) (λ _. e) (λ _. e) (λ _ _. e) (λ _ _. e) (λ _. e) (λ _. e) (λ _ _. e) v ∙ (λ i. on_null (h i) (else i) v)

    on-integer : (g g' : ℤ → Answer A) → ((z : ℤ) → renumbered f (g z) ≡ g' z) → renumbered f (on_integer g e v) ≡ on_integer g' e' v
    on-integer g g' h =
        natural (renumbered f) e (λ _. e) g (λ _. e) (λ _ _. e) (λ _ _. e) (λ _. e) (λ _. e) (λ _ _. e) v ∙ (λ i. on_integer (λ z. h z i) (else i) v)

    on-string : (g g' : ℕ → List ℕ → Answer A) → ((start : ℕ) (content : List ℕ) → renumbered f (g start content) ≡ g' start content)
        → renumbered f (on_string g e v) ≡ on_string g' e' v
    on-string g g' h =
        natural (renumbered f) e (λ _. e) (λ _. e) (λ _. e) (λ _ _. e) g (λ _. e) (λ _. e) (λ _ _. e) v ∙ (λ i. on_string (λ p c. h p c i) (else i) v)

    on_list_lem : (g g' : Items → Answer A) → ((vs : Items) → renumbered f (g vs) ≡ g' vs) → renumbered f (on_list g e v) ≡ on_list g' e' v
    on_list_lem g g' h =
        natural (renumbered f) e (λ _. e) (λ _. e) (λ _. e) (λ _ _. e) (λ _ _. e) g (λ _. e) (λ _ _. e) v ∙ (λ i. on_list (λ vs. h vs i) (else i) v)

    on-dictionary : (g g' : Entries → Answer A) → ((es : Entries) → renumbered f (g es) ≡ g' es) → renumbered f (on_dictionary g e v) ≡ on_dictionary g' e' v
    on-dictionary g g' h =
        natural (renumbered f) e (λ _. e) (λ _. e) (λ _. e) (λ _ _. e) (λ _ _. e) (λ _. e) g (λ _ _. e) v ∙ (λ i. on_dictionary (λ es. h es i) (else i) v)

    on-structure : (g g' : ℕ → Items → Answer A) → ((tag : ℕ) (vs : Items) → renumbered f (g tag vs) ≡ g' tag vs)
        → renumbered f (on_structure g e v) ≡ on_structure g' e' v
    on-structure g g' h =
        natural (renumbered f) e (λ _. e) (λ _. e) (λ _. e) (λ _ _. e) (λ _ _. e) (λ _. e) (λ _. e) g v ∙ (λ i. on_structure (λ tag vs. h tag vs i) (else i) v)

  module _ (c : Complaints) where
    -- ---- what a value may be
    string-at : (at : ℕ) (v : Value) → renumbered f (string_at c at v) ≡ string_at (renamed f c) at v
    string-at at v = on-string _ _ refl v _ _ (λ start content. refl)

    integer-at : (range : ℤ → Bool) (at : ℕ) (v : Value) → renumbered f (integer_at c range at v) ≡ integer_at (renamed f c) range at v
    integer-at range at v = on-integer _ _ refl v _ _ (λ z. chosen (range z) _ _ _ _ refl refl)

    mode-at : (at : ℕ) (v : Value) → renumbered f (mode_at c at v) ≡ mode_at (renamed f c) at v
    mode-at at v =
        on-string _ _ refl v _ _ (λ start content.
        chosen (same content Name.read) _ _ _ _ refl (chosen (same content Name.write) _ _ _ _ refl refl))

    dictionary-at : (at : ℕ) (v : Value) → renumbered f (dictionary_at c at v) ≡ dictionary_at (renamed f c) at v
    dictionary-at at v = on-dictionary _ _ refl v _ _ (λ es. refl)

    strings-in : (at : ℕ) (vs : Items) → renumbered f (strings_in c at vs) ≡ strings_in (renamed f c) at vs
    unfolding strings_in
    strings-in at no_items = refl
    strings-in at (item place v vs) = on-string _ _ refl v _ _ (λ start content. strings-in at vs)

    list_at : (at : ℕ) (v : Value) → renumbered f (list_of_strings_at c at v) ≡ list_of_strings_at (renamed f c) at v
    list_at at v = on_list_lem _ _ refl v _ _ (strings-in at)

    -- ---- entries, by what checks them
    module _ {A : Type 0} (check check' : ℕ → Value → Answer A) (alike : (at : ℕ) (v : Value) → renumbered f (check at v) ≡ check' at v) where
      required-in : (at : ℕ) (h : Held) → renumbered f (required c check at h) ≡ required (renamed f c) check' at h
      required-in at absent = refl
      required-in at (held place v) = on_null_lem _ _ (alike place v) v _ _ refl

      optional-in : {B : Type 0} (n : B) (some : A → B) (h : Held) → renumbered f (optional check n some h) ≡ optional check' n some h
      optional-in n some absent = refl
      optional-in n some (held place v) = on_null_lem _ _ (and-then (check place v) _ _ _ (alike place v) (λ a. refl)) v _ _ refl

    -- ---- the extra of each request
    hello-in : (minor at : ℕ) (e : Lookup) → renumbered f (hello c minor at e) ≡ hello (renamed f c) minor at e
    unfolding hello
    hello-in minor at e =
        and-then (required c (string_at c) at (e Name.user-agent)) _ _ _ (required-in _ _ string-at at (e Name.user-agent)) (λ agent.
        and-then (text c (e Name.scheme)) _ _ _ (optional-in _ _ string-at None Some (e Name.scheme)) (λ scheme.
        and-then (text c (e Name.principal)) _ _ _ (optional-in _ _ string-at None Some (e Name.principal)) (λ principal.
        and-then (text c (e Name.credentials)) _ _ _ (optional-in _ _ string-at None Some (e Name.credentials)) (λ credentials.
        and-then (Meaning.dictionary c (cond (leb 1 minor) (e Name.routing) absent)) _ _ _
        (optional-in _ _ dictionary-at None Some (cond (leb 1 minor) (e Name.routing) absent)) (λ routing. refl)))))

    transaction-in : (e : Lookup) → renumbered f (transaction c e) ≡ transaction (renamed f c) e
    unfolding transaction
    transaction-in e =
        and-then (list_of_strings c (e Name.bookmarks)) _ _ _ (optional-in _ _ list_at None Some (e Name.bookmarks)) (λ bookmarks.
        and-then (optional (integer_at c non_negative) None Some (e Name.tx-timeout)) _ _ _ (optional-in _ _ (integer-at non_negative) None Some (e Name.tx-timeout)) (λ timeout.
        and-then (Meaning.dictionary c (e Name.tx-metadata)) _ _ _ (optional-in _ _ dictionary-at None Some (e Name.tx-metadata)) (λ metadata.
        and-then (optional (mode_at c) None Some (e Name.mode)) _ _ _ (optional-in _ _ mode-at None Some (e Name.mode)) (λ access.
        and-then (text c (e Name.db)) _ _ _ (optional-in _ _ string-at None Some (e Name.db)) (λ db. refl)))))

    batch-in : (at : ℕ) (e : Lookup) → renumbered f (batch c at e) ≡ batch (renamed f c) at e
    unfolding batch
    batch-in at e =
        and-then (required c (integer_at c (minus_one_or 1)) at (e Name.n)) _ _ _ (required-in _ _ (integer-at (minus_one_or 1)) at (e Name.n)) (λ n.
        and-then (optional (integer_at c (minus_one_or 0)) (negsuc 0) (λ z. z) (e Name.qid)) _ _ _ (optional-in _ _ (integer-at (minus_one_or 0)) (negsuc 0) (λ z. z) (e Name.qid)) (λ qid. refl))

    begin-in : (at : ℕ) (e : Lookup) → renumbered f (begin c at e) ≡ begin (renamed f c) at e
    begin-in at e = and-then (transaction c e) _ _ _ (transaction-in e) (λ t. refl)

    discard-in : (at : ℕ) (e : Lookup) → renumbered f (discard c at e) ≡ discard (renamed f c) at e
    discard-in at e = and-then (batch c at e) _ _ _ (batch-in at e) (λ b. refl)

    pull-in : (at : ℕ) (e : Lookup) → renumbered f (pull c at e) ≡ pull (renamed f c) at e
    pull-in at e = and-then (batch c at e) _ _ _ (batch-in at e) (λ b. refl)

    -- ---- fields
    extra-in : (g g' : ℕ → Lookup → Answer Request) → ((at : ℕ) (e : Lookup) → renumbered f (g at e) ≡ g' at e)
        → (at : ℕ) (v : Value) → renumbered f (extra c g at v) ≡ extra (renamed f c) g' at v
    extra-in g g' h at v = on-dictionary _ _ refl v _ _ (λ es. h at (under es))

    run_in_lem : (q : ℕ) (query : Value) (p : ℕ) (parameters : Value) (x : ℕ) (more : Value)
        → renumbered f (run c q query p parameters x more) ≡ run (renamed f c) q query p parameters x more
    unfolding run
    run_in_lem q query p parameters x more =
        and-then (string_at c q query) _ _ _ (string-at q query) (λ text.
        and-then (dictionary_at c p parameters) _ _ _ (dictionary-at p parameters) (λ place.
        extra-in (λ at e. and_then (transaction c e) (λ t. returned (R.Run text place t))) _
        (λ at e. and-then (transaction c e) _ (λ t. returned (R.Run text place t)) _ (transaction-in e) (λ t. refl)) x more))

    module _ (fourteen : f 14 ≡ 14) (fifteen : f 15 ≡ 15) where
      count : ◌≡◌ {A = Answer Request} (refused (f 15) 0) (refused 15 0)
      count = ap (λ (number : ℕ). refused number 0) fifteen

      none_in : (a a' : Answer Request) → renumbered f a ≡ a' → (vs : Items) → renumbered f (none a vs) ≡ none a' vs
      none_in a a' h no_items = h
      none_in a a' h (item at v vs) = count

      one_in : (g g' : ℕ → Value → Answer Request) → ((at : ℕ) (v : Value) → renumbered f (g at v) ≡ g' at v) → (vs : Items) → renumbered f (one g vs) ≡ one g' vs
      one_in g g' h no_items = count
      one_in g g' h (item at v vs) = none_in _ _ (h at v) vs

      three-in : (vs : Items) → renumbered f (three (run c) vs) ≡ three (run (renamed f c)) vs
      three-in no_items = count
      three-in (item q query no_items) = count
      three-in (item q query (item p parameters vs)) = one_in _ _ (run_in_lem q query p parameters) vs

      -- ---- requests
      tagged_in : (minor given : ℕ) (fields : Items) → renumbered f (tagged c minor given fields) ≡ tagged (renamed f c) minor given fields
      unfolding tagged
      tagged_in minor given fields =
          chosen (eqb given 0x01) _ _ _ _ (one_in _ _ (extra-in (hello c minor) _ (hello-in minor)) fields)
          (chosen (eqb given 0x02) _ _ _ _ (none_in _ _ refl fields)
          (chosen (eqb given 0x0F) _ _ _ _ (none_in _ _ refl fields)
          (chosen (eqb given 0x10) _ _ _ _ (three-in fields)
          (chosen (eqb given 0x11) _ _ _ _ (one_in _ _ (extra-in (begin c) _ begin-in) fields)
          (chosen (eqb given 0x12) _ _ _ _ (none_in _ _ refl fields)
          (chosen (eqb given 0x13) _ _ _ _ (none_in _ _ refl fields)
          (chosen (eqb given 0x2F) _ _ _ _ (one_in _ _ (extra-in (discard c) _ discard-in) fields)
          (chosen (eqb given 0x3F) _ _ _ _ (one_in _ _ (extra-in (pull c) _ pull-in) fields) (ap (λ (number : ℕ). refused number 0) fourteen)))))))))

      pub request-in : (minor : ℕ) (v : Value) → renumbered f (request_in c minor v) ≡ request_in (renamed f c) minor v
      request-in minor v = on-structure _ _ (ap (λ (number : ℕ). refused number 0) fourteen) v _ _ (tagged_in minor)

-- ---- of a message: the value reader's numbers are below
fault-below : (number place : ℕ) → value_fault number place ≡ true → number ≤ 15
fault-below number place e = by (eqb number 6 && eqb place 0) refl e
  where
    by : (b : Bool) → (eqb number 6 && eqb place 0) ≡ b → (b || among 7 13 number) ≡ true → number ≤ 15
    by true e f = let six = eqb-true number 6 ((and-eq-true_iff (eqb number 6) (eqb place 0)).0 e).0 in omega arith
    by false e f = let most = leb-true number 13 ((and-eq-true_iff (leb 7 number) (leb number 13)).0 f).1 in omega arith

module _ (f : ℕ → ℕ) (low : (number : ℕ) → number ≤ 15 → f number ≡ number) where
  value_stays : {A : Type 0} (a : Answer A) → Refuses value_fault a → renumbered f a ≡ a
  value_stays (returned a) e = refl
  value_stays (refused number place) e = ap (λ (k : ℕ). refused k place) (low number (fault-below number place e))

  message-in : (c : Complaints) (minor : ℕ) (s : List ℕ) → renumbered f (Meaning.request_under c minor (decode s)) ≡ Meaning.request_under (renamed f c) minor (decode s)
  message-in c minor s =
      and-then f (decode s) _ _ _ (value_stays (decode s) (values-places.faults s)) (request-in f c (low 14 (omega arith)) (low 15 (omega arith)) minor)

was-low : (number : ℕ) → number ≤ 15 → was number ≡ number
was-low number h = rw (lt-leb 25 number (omega arith))

before : (minor : ℕ) (a : Answer Value) → and_then a (request_in sixteen minor) ≡ Before.request_of minor a
before minor (returned v) = same-request minor v
before minor (refused number place) = refl

pub renumbering : Claim
renumbering =
    record {
      renumbers = message-in;
      sixteen = λ minor s. before minor (decode s);
      splits = λ minor s. message-in was was-low complaints minor s ∙ before minor (decode s);
    }
