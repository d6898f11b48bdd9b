-- The fields of a request: how many there are, and what is found of each is what it is. Assumes nothing.
use mathlib.Core.Path.{◌≡◌, refl, sym, ap, ◌∙◌}
use mathlib.Core.Bool.{cond}
use mathlib.Core.List.{List, []}
use Prim.Native.Nat.{ℕ, suc, ◌+◌, ◌-◌, ◌<◌, ◌≤◌}
use native.Mathlib.Omega.{arith}
use lib.Dec.{eqb}
use lib.ListN.{length}
use borrow.Author.Tests.{eq-eqb, ne_eqb}
use Rattle.refusal.specs.Answer.{Answer, returned, refused, and_then}
use Rattle.markers.specs.Value.{Value, null, boolean, integer, float, bytes, string, list, dictionary, structure, Items, no_items, item, count, Entries, count_entries, first_entry}
use Rattle.values.specs.Decode.{Parse, parsed, value_at, leaf_value, entries}
use Rattle.markers.specs.Extents.{most_open}
use Rattle.values.specs.Reading.{head_of}
use Rattle.values.specs.Walk.{peek_at, skip_at}
use Rattle.values.specs.Private.Placement.{Reads, ItemsLie, PartsLie}
use Rattle.markers.specs.declared.kind.Leaf.{Leaf}
use Rattle.markers.specs.declared.kind.Leaf.TheVariants as L
use Rattle.values.proofs.Placement.{placement}
use Rattle.values.proofs.Steps as Steps
use Rattle.values.proofs.Steps.{ValueTells, value_tells, entries-count}
use Rattle.entries.specs.Numbering.{name_of}
use Rattle.entries.specs.Lookup.{under, Lookup}
use Rattle.entries.specs.View.{seen}
use Rattle.markers.specs.ByKind.{on_dictionary}
use Rattle.requests.specs.Checks.{complaints, wrong_kind, string_at, dictionary_at}
use Rattle.requests.specs.Requests.{transaction, extra, run, none, one, three}
use Rattle.requests.specs.Private.Views.{transaction_seen}
use Rattle.entries.specs.Walk.{string_found, entries_head, entries_found, noted_from, nothing, entry_in}
use Rattle.requests.specs.Private.Fields.{Fields, ExtraIs}
use Rattle.std.specs.Prelude.{Option, Some, None, Ok, Err, ok_or}
use Rattle.std.specs.Option.{option_map_or}
use Rattle.markers.specs.Extents.{span}
use Rattle.markers.specs.declared.extent.Span.{Span}
use Rattle.requests.specs.declared.request.Transaction.{Transaction}
use Rattle.requests.specs.declared.request.Request.{Request}
use Rattle.requests.specs.declared.request.Request.TheVariants as R
use Rattle.entries.specs.declared.Entries.{Entries as Lying}
use Rattle.markers.proofs.ByKind.{of-each}
use Rattle.entries.proofs.Trees.{text_of, text-there}
use Rattle.entries.proofs.Lookups.{noted-there}
use Rattle.requests.proofs.Viewed.{transaction-seen}

-- what stands for nothing where something is wanted
pub missing : {A E : Type 0} (o : Option A) (why x : E) → Err x ≡ ok_or o why → (o ≡ None) × (x ≡ why)
missing None why x e = (refl, cc e)
missing (Some a) why x e = absurd (cc e)

-- ---- how many there are
pub none_is : (n : ℕ) (vs : Items) (a : Answer Request) → n ≡ count vs → cond (eqb n 0) a (refused 15 0) ≡ none a vs
unfolding count
none_is n no_items a e = rw (eq-eqb n 0 e)
none_is n (item at v vs) a e = rw (ne_eqb n 0 (λ z. omega arith))

module _ (n : ℕ) where
  pub one-wrong : (vs : Items) (f : ℕ → Value → Answer Request) → n ≡ count vs → (n ≡ 1 → ⊥) → refused 15 0 ≡ one f vs
  unfolding count
  one-wrong no_items f e d = refl
  one-wrong (item at v no_items) f e d = absurd (d e)
  one-wrong (item at v (item p w vs)) f e d = refl

  pub three-wrong : (vs : Items) (f : ℕ → Value → ℕ → Value → ℕ → Value → Answer Request) → n ≡ count vs → (n ≡ 3 → ⊥) → refused 15 0 ≡ three f vs
  unfolding count
  three-wrong no_items f e d = refl
  three-wrong (item at v no_items) f e d = refl
  three-wrong (item at v (item p w no_items)) f e d = refl
  three-wrong (item at v (item p w (item q x no_items))) f e d = absurd (d e)
  three-wrong (item at v (item p w (item q x (item r y vs)))) f e d = refl

-- ---- one by one
pub record Next (s : List ℕ) (at m : ℕ) (vs : Items) (end : ℕ) : Type 0 where
  pub v : Value
  pub next : ℕ
  pub rest : Items
  pub reads : Reads s 15 at v next
  pub lie : ItemsLie s 15 next rest end
  pub count : m ≡ count rest
  pub all : vs ≡ item at v rest

next_field : (s : List ℕ) (at m : ℕ) (vs : Items) (end : ℕ) → ItemsLie s 15 at vs end → suc m ≡ count vs → Next s at m vs end
unfolding ItemsLie count
next_field s at m no_items end lie e = absurd (omega arith)
next_field s at m (item place v vs) end lie e =
    record { v = v; next = lie.1; rest = vs; reads = lie.2; lie = lie.3; count = omega arith; all = ap (λ (p : ℕ). item p v vs) lie.0 }

no_more : (vs : Items) → 0 ≡ count vs → vs ≡ no_items
unfolding count
no_more no_items e = refl
no_more (item at v vs) e = absurd (omega arith)

-- the one field
pub record One (s : List ℕ) (at : ℕ) (vs : Items) : Type 0 where
  pub v : Value
  pub end : ℕ
  pub reads : Reads s 15 at v end
  pub all : vs ≡ item at v no_items

pub one_field : (s : List ℕ) (at n : ℕ) (vs : Items) → Fields s at n vs → n ≡ 1 → One s at vs
one_field s at n vs fields e =
    let a = next_field s at 0 vs fields.end fields.lie (sym e ∙ fields.count) in
    record { v = a.v; end = a.next; reads = a.reads; all = a.all ∙ ap (item at a.v) (no_more a.rest a.count) }

-- the three fields
pub record Three (s : List ℕ) (at : ℕ) (vs : Items) : Type 0 where
  pub v : Value
  pub p : ℕ
  pub w : Value
  pub q : ℕ
  pub x : Value
  pub end : ℕ
  pub first : Reads s 15 at v p
  pub second : Reads s 15 p w q
  pub third : Reads s 15 q x end
  pub all : vs ≡ item at v (item p w (item q x no_items))

module _ (s : List ℕ) (at : ℕ) (vs : Items) (end : ℕ) where
  three-of : (a : Next s at 2 vs end) (b : Next s a.next 1 a.rest end) (c : Next s b.next 0 b.rest end) → Three s at vs
  three-of a b c =
      record {
        v = a.v;
        p = a.next;
        w = b.v;
        q = b.next;
        x = c.v;
        end = c.next;
        first = a.reads;
        second = b.reads;
        third = c.reads;
        all = a.all ∙ ap (item at a.v) (b.all ∙ ap (item a.next b.v) (c.all ∙ ap (item b.next c.v) (no_more c.rest c.count)));
      }

  two-more : (a : Next s at 2 vs end) (b : Next s a.next 1 a.rest end) → Three s at vs
  two-more a b = three-of a b (next_field s b.next 0 b.rest end b.lie b.count)

  one_more_lem : Next s at 2 vs end → Three s at vs
  one_more_lem a = two-more a (next_field s a.next 1 a.rest end a.lie a.count)

pub three-fields : (s : List ℕ) (at n : ℕ) (vs : Items) → Fields s at n vs → n ≡ 3 → Three s at vs
three-fields s at n vs fields e = one_more_lem s at vs fields.end (next_field s at 2 vs fields.end fields.lie (sym e ∙ fields.count))

-- ---- a field that is to be a Dictionary
module _ (s : List ℕ) (d at : ℕ) where
  -- its entries, as they were read
  leaf-no-dictionary : (k : Leaf) (p n q : ℕ) (es : Entries) (end : ℕ) → parsed (leaf_value s k p n) q ≡ parsed (dictionary es) end → ⊥
  unfolding leaf_value
  leaf-no-dictionary L.Null p n q es end e = cc e
  leaf-no-dictionary L.Boolean p n q es end e = cc e
  leaf-no-dictionary L.Integer p n q es end e = cc e
  leaf-no-dictionary L.Float p n q es end e = cc e
  leaf-no-dictionary L.Bytes p n q es end e = cc e
  leaf-no-dictionary L.String p n q es end e = cc e

  dictionary-reads : (es : Entries) (end : ℕ) → Reads s d at (dictionary es) end
      → entries s (value_at s (d - 1)) [] (count_entries es) (first_entry es end) ≡ parsed es end
  dictionary-reads es end r = by (value_tells s d at) r
    where
      by : {g : Parse Value} → ValueTells s d at g → g ≡ parsed (dictionary es) end
          → entries s (value_at s (d - 1)) [] (count_entries es) (first_entry es end) ≡ parsed es end
      by (Steps.leaf k p n x t) e = absurd (leaf-no-dictionary k p n (p + n) es end e)
      by (Steps.list p n vs q x h) e = absurd (cc e)
      by (Steps.structure p n vs q x l h) e = absurd (cc e)
      by (Steps.none why place) e = absurd (cc e)
      by (Steps.dictionary p n fs q x h) e =
          let a : fs ≡ es = cc e in
          let b : q ≡ end = cc e in
          let c = entries-count s (value_at s (d - 1)) [] n p fs q h in
          rw (← a, ← b, c.0, c.1) h

  module _ (shallow : d ≤ most_open) (v : Value) (end : ℕ) (r : Reads s d at v end) where
    found-head : entries_found (peek_at s at) ≡ entries_head (head_of v end)
    found-head = ap entries_found (sym (placement s d at shallow v end r).peeked)

    -- none is found: it is no Dictionary
    pub no-dictionary : {A : Type 0} (f : Entries → Answer A) → None ≡ entries_found (peek_at s at) → wrong_kind complaints at ≡ on_dictionary f (wrong_kind complaints at) v
    unfolding head_of
    no-dictionary f e = by v (e ∙ found-head)
      where
        by : (v : Value) → None ≡ entries_head (head_of v end) → wrong_kind complaints at ≡ on_dictionary f (wrong_kind complaints at) v
        by null e = refl
        by (boolean b) e = refl
        by (integer z) e = refl
        by (float bits) e = refl
        by (bytes start content) e = refl
        by (string start content) e = refl
        by (list vs) e = refl
        by (dictionary es) e = absurd (cc e)
        by (structure tag vs) e = refl

    -- entries are found: they are the Dictionary's, and what the walk notes is what they say
    pub record Found (p n : ℕ) : Type 0 where
      pub es : Entries
      pub is : v ≡ dictionary es
      pub lookup : (k : ℕ) → k < 12 → entry_in s (noted_from s n p nothing) (name_of k) ≡ seen (under es (name_of k))

    pub dictionary-found : (p n : ℕ) → Some (record { first = p; count = n }) ≡ entries_found (peek_at s at) → Found p n
    unfolding head_of
    dictionary-found p n e = by v refl (e ∙ found-head)
      where
        by : (w : Value) → v ≡ w → Some (record { first = p; count = n }) ≡ entries_head (head_of w end) → Found p n
        by null g e = absurd (cc e)
        by (boolean b) g e = absurd (cc e)
        by (integer z) g e = absurd (cc e)
        by (float bits) g e = absurd (cc e)
        by (bytes start content) g e = absurd (cc e)
        by (string start content) g e = absurd (cc e)
        by (list vs) g e = absurd (cc e)
        by (structure tag vs) g e = absurd (cc e)
        by (dictionary es) g e =
            let f : ◌≡◌ {A = Lying} (record { first = p; count = n }) (record { first = first_entry es end; count = count_entries es }) = cc e in
            let a : p ≡ first_entry es end = ap (λ (x : Lying). x.first) f in
            let b : n ≡ count_entries es = ap (λ (x : Lying). x.count) f in
            let h = dictionary-reads es end (rw g at r) in
            record { es = es; is = g; lookup = rw (a, b) (noted-there s (d - 1) (omega arith) (count_entries es) (first_entry es end) es end h) }

-- ---- a request whose one field is its extra
module _ (s : List ℕ) (at n : ℕ) (vs : Items) (fields : Fields s at n vs) (alone : n ≡ 1) where
  field : One s at vs
  field = one_field s at n vs fields alone

  shallow : 15 ≤ most_open
  shallow = omega arith

  pub no_extra : None ≡ entries_found (peek_at s at) → (f : ℕ → Lookup → Answer Request) → one (extra complaints f) vs ≡ wrong_kind complaints at
  no_extra e f =
      ap (one (extra complaints f)) field.all
      ∙ sym (no-dictionary s 15 at shallow field.v field.end field.reads (λ es. f at (under es)) e)

  pub extra-there : (p m : ℕ) → Some (record { first = p; count = m }) ≡ entries_found (peek_at s at)
      → (found : List ℕ) → found ≡ noted_from s m p nothing → ExtraIs s at vs (Ok found)
  extra-there p m e found h =
      let d = dictionary-found s 15 at shallow field.v field.end field.reads p m e in (
        under d.es,
        (λ k i. ap (λ (l : List ℕ). entry_in s l (name_of k)) h ∙ d.lookup k i),
        (λ f. ap (one (extra complaints f)) field.all ∙ ap (extra complaints f at) d.is),
      )

-- ---- RUN
-- a query that is a String, or any other
query-is : (at : ℕ) (v : Value) (f : Span → Answer Request)
    → option_map_or f (text_of v) (wrong_kind complaints at) ≡ and_then (string_at complaints at v) f
query-is at v f =
    of-each (λ w. option_map_or f (text_of w) (wrong_kind complaints at) ≡ and_then (string_at complaints at w) f)
    refl (λ _. refl) (λ _. refl) (λ _. refl) (λ _ _. refl) (λ _ _. refl) (λ _. refl) (λ _. refl) (λ _ _. refl) v

-- a String ends where its content does
query-ends : (s : List ℕ) (d at : ℕ) (v : Value) (end : ℕ) (c : Span) → PartsLie s d v end → Some c ≡ text_of v → end ≡ c.start + c.size
query-ends s d at null end c p e = absurd (cc e)
query-ends s d at (boolean b) end c p e = absurd (cc e)
query-ends s d at (integer z) end c p e = absurd (cc e)
query-ends s d at (float bits) end c p e = absurd (cc e)
query-ends s d at (bytes start content) end c p e = absurd (cc e)
query-ends s d at (string start content) end c p e =
    let a : c ≡ span start (length content) = cc e in
    rw a (sym p.ends)
query-ends s d at (list vs) end c p e = absurd (cc e)
query-ends s d at (dictionary es) end c p e = absurd (cc e)
query-ends s d at (structure tag vs) end c p e = absurd (cc e)

module _ (s : List ℕ) (at n : ℕ) (vs : Items) (fields : Fields s at n vs) (all : n ≡ 3) where
  three-there : Three s at vs
  three-there = three-fields s at n vs fields all

  is-three : run complaints at three-there.v three-there.p three-there.w three-there.q three-there.x ≡ three (run complaints) vs
  is-three = ap (three (run complaints)) (sym three-there.all)

  deep : 15 ≤ most_open
  deep = omega arith

  -- the query and the parameters, and what follows them
  with-extra : Span → ℕ → Answer Request
  with-extra query p = extra complaints (λ at e. and_then (transaction complaints e) (λ t. returned (R.Run query p t))) three-there.q three-there.x

  after-query : Span → Answer Request
  after-query query = and_then (dictionary_at complaints three-there.p three-there.w) (with-extra query)

  by-query : option_map_or after-query (string_found (peek_at s at)) (wrong_kind complaints at) ≡ three (run complaints) vs
  unfolding run after-query with-extra
  by-query =
      ap (λ (t : Option Span). option_map_or after-query t (wrong_kind complaints at)) (text-there s 15 deep at three-there.v three-there.p three-there.first)
      ∙ query-is at three-there.v after-query ∙ is-three

  pub no-query : None ≡ string_found (peek_at s at) → wrong_kind complaints at ≡ three (run complaints) vs
  no-query e = ap (λ (t : Option Span). option_map_or after-query t (wrong_kind complaints at)) e ∙ by-query

  module _ (query : Span) (given : Some query ≡ string_found (peek_at s at)) where
    with-query : after-query query ≡ three (run complaints) vs
    with-query = ap (λ (t : Option Span). option_map_or after-query t (wrong_kind complaints at)) given ∙ by-query

    -- the parameters begin where the query ends
    ends : three-there.p ≡ query.start + query.size
    ends = query-ends s 15 at three-there.v three-there.p query (placement s 15 at deep three-there.v three-there.p three-there.first).parts
        (given ∙ text-there s 15 deep at three-there.v three-there.p three-there.first)

    pub no-parameters : None ≡ entries_found (peek_at s (query.start + query.size)) → wrong_kind complaints (query.start + query.size) ≡ three (run complaints) vs
    unfolding after-query
    no-parameters e =
        let none = no-dictionary s 15 three-there.p deep three-there.w three-there.q three-there.second (λ es. returned three-there.p) (rw (← ends) at e) in
        rw (← ends) (ap (λ (a : Answer ℕ). and_then a (with-extra query)) none ∙ with-query)

    module _ (p m : ℕ) (parameters : Some (record { first = p; count = m }) ≡ entries_found (peek_at s (query.start + query.size))) where
      -- the extra, and what it makes of the request
      after-parameters : (x : Value) → Answer Request
      after-parameters x = extra complaints (λ at e. and_then (transaction complaints e) (λ t. returned (R.Run query (query.start + query.size) t))) three-there.q x

      with-parameters : after-parameters three-there.x ≡ three (run complaints) vs
      unfolding after-query with-extra after-parameters
      with-parameters =
          let d = dictionary-found s 15 three-there.p deep three-there.w three-there.q three-there.second p m (rw (← ends) at parameters) in
          let w : after-query query ≡ three (run complaints) vs = with-query in
          rw (d.is, ends) at w

      skipped : Some three-there.q ≡ skip_at s (query.start + query.size)
      skipped = rw ends at (placement s 15 three-there.p deep three-there.w three-there.q three-there.second).skipped

      pub not-cut : None ≡ skip_at s (query.start + query.size) → ⊥
      not-cut e = let f : None ≡ Some three-there.q = e ∙ sym skipped in cc f

      module _ (q : ℕ) (e : Some q ≡ skip_at s (query.start + query.size)) where
        at-extra : three-there.q ≡ q
        at-extra = let f : Some three-there.q ≡ Some q = skipped ∙ sym e in cc f

        pub no-run-extra : None ≡ entries_found (peek_at s q) → wrong_kind complaints q ≡ three (run complaints) vs
        unfolding after-parameters
        no-run-extra f =
            rw (← at-extra) (no-dictionary s 15 three-there.q deep three-there.x three-there.end three-there.third _ (rw (← at-extra) at f) ∙ with-parameters)

        pub run-there : (f k : ℕ) → Some (record { first = f; count = k }) ≡ entries_found (peek_at s q) → (found : List ℕ) → found ≡ noted_from s k f nothing
            → and_then (transaction_seen complaints (entry_in s found)) (λ t. returned (R.Run query (query.start + query.size) t)) ≡ three (run complaints) vs
        unfolding after-parameters
        run-there f k g found h =
            let d = dictionary-found s 15 three-there.q deep three-there.x three-there.end three-there.third f k (rw (← at-extra) at g) in
            let same = ap (λ (l : List ℕ). transaction_seen complaints (entry_in s l)) h ∙ transaction-seen complaints (entry_in s (noted_from s k f nothing)) (under d.es) d.lookup in
            ap (λ (t : Answer Transaction). and_then t (λ t. returned (R.Run query (query.start + query.size) t))) same
            ∙ ap after-parameters (sym d.is) ∙ with-parameters
