-- Where the parts of a value that was read lie, as `specs/Private/Placement.antt` states it. Assumes nothing.
use mathlib.Core.Path.{◌≡◌, refl, sym, ap, ◌∙◌, subst}
use mathlib.Core.List.{List, [], ◌∷◌}
use Prim.Native.Nat.{ℕ, zero, suc, ◌+◌, ◌-◌, ◌*◌, ◌≤◌}
use native.Mathlib.Omega.{arith}
use lib.ListN.{get_or}
use Rattle.std.specs.Prelude.{Ok, Option, Some, option_and_then}
use Rattle.slices.specs.Parts.{part}
use Rattle.slices.proofs.Parts.{length_part}
use Rattle.markers.specs.Value as Tree
use Rattle.markers.specs.Value.{Value, Items, no_items, Entries, no-entries}
use Rattle.values.specs.Decode.{Parse, parsed, failed, leaf_value, KeyText, key_at, items, entries, value_at}
use Rattle.markers.specs.Extents.{extent_at, most_open}
use Rattle.values.specs.Reading.{head_of}
use Rattle.values.specs.Walk.{peek_at, past, skip_within}
use Rattle.values.specs.Private.Placement.{ItemsLie, ContentLies, KeyLies, EntriesLie, PartsLie, Claim}
use Rattle.markers.specs.declared.kind.Leaf.{Leaf}
use Rattle.markers.specs.declared.kind.Leaf.TheVariants as L
use Rattle.markers.specs.declared.kind.Container.TheVariants as C
use Rattle.markers.specs.declared.extent.Extent.TheVariants as E
use Rattle.values.specs.declared.head.Head.{Head}
use Rattle.values.specs.declared.head.Head.TheVariants as H
use Rattle.markers.proofs.Extents.{Inside, extent-inside, key-as-string, room_for}
use Rattle.values.proofs.Leaves.{string-head}
use Rattle.values.proofs.KeySearch as Keys
use Rattle.values.proofs.KeySearch.{KeyTells, key-tells}
use Rattle.values.proofs.Steps as Steps
use Rattle.values.proofs.Steps.{first-item, first_entry_lem, items-count, entries-count, value-bounds, ValueTells, value_tells}
use Rattle.values.proofs.Passing.{peek-leaf, peek-list, peek-dictionary, peek-tag, skip-leaf, skip-as, skip-fields}
use Rattle.values.proofs.Embedding.{leaf-any-room, container-more-room}

-- ---- skipping
-- a key is skipped like the String that it is
key-skipped : (s : List ℕ) (seen : List (List ℕ)) (at : ℕ) (x : KeyText) (q : ℕ) → key_at s seen at ≡ parsed x q → (e : ℕ) → Some q ≡ skip_within s e at
key-skipped s seen at x q f e = by (key-tells s seen at) f
  where
    by : {g : Parse KeyText} → KeyTells s seen at g → g ≡ parsed x q → Some q ≡ skip_within s e at
    by (Keys.none why place) f = cc f
    by (Keys.new j y g h) f =
        let a : j.start + j.size ≡ q = cc f in
        ap (λ (n : ℕ). Some n) (sym a) ∙ skip-leaf s e at L.String j.start j.size (key-as-string s at j e y)

module _ (f : ℕ → Parse Value) (g : ℕ → Option ℕ) (same : (p : ℕ) (v : Value) (q : ℕ) → f p ≡ parsed v q → Some q ≡ g p) where
  items-passed : (n at : ℕ) (vs : Items) (end : ℕ) → items f n at ≡ parsed vs end → Some end ≡ past g n at
  unfolding items past
  items-passed zero at vs end e = let b : at ≡ end = cc e in ap (λ (n : ℕ). Some n) (sym b)
  items-passed (suc n) at vs end e =
      let i = first-item f n at vs end e in
      items-passed n i.next i.rest end i.others
      ∙ ap (option_and_then (λ q. past g n q)) (same at i.v i.next i.value)

  -- two values, then the others
  past_two : (n at p q : ℕ) → Some p ≡ g at → Some q ≡ g p → past g n q ≡ past g (suc (suc n)) at
  unfolding past
  past_two n at p q a b =
      ap (option_and_then (λ r. past g n r)) b ∙ ap (option_and_then (λ r. past g (suc n) r)) a

  entries-passed : (s : List ℕ) → ((seen : List (List ℕ)) (at : ℕ) (x : KeyText) (q : ℕ) → key_at s seen at ≡ parsed x q → Some q ≡ g at)
      → (seen : List (List ℕ)) (n at : ℕ) (es : Entries) (end : ℕ) → entries s f seen n at ≡ parsed es end → Some end ≡ past g (2 * n) at
  unfolding entries past
  entries-passed s keys seen zero at es end e = let b : at ≡ end = cc e in ap (λ (n : ℕ). Some n) (sym b)
  entries-passed s keys seen (suc n) at es end e =
      let i = first_entry_lem s f seen n at es end e in
      let m : 2 * suc n ≡ suc (suc (2 * n)) = omega arith in
      entries-passed s keys (i.k.content ∷ seen) n i.next i.rest end i.others
      ∙ past_two (2 * n) at i.place i.next (keys seen at i.k i.place i.key) (same i.place i.v i.next i.value)
      ∙ ap (λ (j : ℕ). past g j at) (sym m)

module _ (s : List ℕ) where
  module _ (d e : ℕ) (l : d ≤ e) (inner : 1 ≤ d → (p : ℕ) (v : Value) (q : ℕ) → value_at s (d - 1) p ≡ parsed v q → Some q ≡ skip_within s (e - 1) p) where
    skip_step : (at : ℕ) {g : Parse Value} → ValueTells s d at g → (v : Value) (q : ℕ) → g ≡ parsed v q → Some q ≡ skip_within s e at
    skip_step at (Steps.none why place) v q f = cc f
    skip_step at (Steps.leaf j p n x h) v q f =
        let b : p + n ≡ q = cc f in ap (λ (n : ℕ). Some n) (sym b) ∙ skip-leaf s e at j p n (leaf-any-room s d e at j p n x)
    skip_step at (Steps.list p n vs end x h) v q f =
        let b : end ≡ q = cc f in
        ap (λ (n : ℕ). Some n) (sym b) ∙ items-passed (value_at s (d - 1)) (skip_within s (e - 1)) (inner (room_for s d at C.List p n x)) n p vs end h
        ∙ skip-as s e at C.List p n (container-more-room s d e at l C.List p n x) C.List refl
    skip_step at (Steps.dictionary p n es end x h) v q f =
        let b : end ≡ q = cc f in
        ap (λ (n : ℕ). Some n) (sym b)
        ∙ entries-passed (value_at s (d - 1)) (skip_within s (e - 1)) (inner (room_for s d at C.Dictionary p n x)) s
        (λ seen at x q g. key-skipped s seen at x q g (e - 1)) [] n p es end h
        ∙ skip-as s e at C.Dictionary p n (container-more-room s d e at l C.Dictionary p n x) C.Dictionary refl
    skip_step at (Steps.structure p n vs end x r h) v q f =
        let b : end ≡ q = cc f in
        ap (λ (n : ℕ). Some n) (sym b) ∙ items-passed (value_at s (d - 1)) (skip_within s (e - 1)) (inner (room_for s d at C.Structure p n x)) n (p + 1) vs end h
        ∙ skip-fields s e at C.Structure p n (container-more-room s d e at l C.Structure p n x) refl r

  -- where a value is read, it is skipped
  pub skip-reads : (d e : ℕ) → d ≤ e → (at : ℕ) (v : Value) (q : ℕ) → value_at s d at ≡ parsed v q → Some q ≡ skip_within s e at
  skip-reads zero e l at v q f = skip_step zero e l (λ h p w r g. absurd (none h)) at (value_tells s zero at) v q f
    where
      none : 1 ≤ 0 → ⊥
      none h = omega arith
  skip-reads (suc d) e l at v q f =
      let m : suc d - 1 ≡ d = omega arith in
      skip_step (suc d) e l (λ h p w r g. skip-reads d (e - 1) (omega arith) p w r (rw m at g)) at (value_tells s (suc d) at) v q f

  -- ---- peeking
  peek-step : (d at : ℕ) → d ≤ most_open → {g : Parse Value} → ValueTells s d at g → (v : Value) (q : ℕ) → g ≡ parsed v q → Some (head_of v q) ≡ peek_at s at
  unfolding head_of
  peek-step d at l (Steps.none why place) v q f = cc f
  peek-step d at l (Steps.leaf j p n x h) v q f =
      let a : leaf_value s j p n ≡ v = cc f in
      let b : p + n ≡ q = cc f in
      rw (← a, ← b) (peek-leaf s at j p n (leaf-any-room s d most_open at j p n x))
  peek-step d at l (Steps.list p n vs end x h) v q f =
      let a : Tree.list vs ≡ v = cc f in
      let b : end ≡ q = cc f in
      let c = items-count (value_at s (d - 1)) n p vs end h in
      rw (← a, ← b, c.0, c.1) (peek-list s at C.List p n (container-more-room s d most_open at l C.List p n x) refl)
  peek-step d at l (Steps.dictionary p n es end x h) v q f =
      let a : Tree.dictionary es ≡ v = cc f in
      let b : end ≡ q = cc f in
      let c = entries-count s (value_at s (d - 1)) [] n p es end h in
      rw (← a, ← b, c.0, c.1) (peek-dictionary s at C.Dictionary p n (container-more-room s d most_open at l C.Dictionary p n x) refl)
  peek-step d at l (Steps.structure p n vs end x r h) v q f =
      let a : Tree.structure (get_or s p 0) vs ≡ v = cc f in
      let b : end ≡ q = cc f in
      let c = items-count (value_at s (d - 1)) n (p + 1) vs end h in
      rw (← a, ← b, c.0, c.1) (peek-tag s at C.Structure p n (container-more-room s d most_open at l C.Structure p n x) refl r)

  -- ---- contents
  content-part : (d at : ℕ) (j : Leaf) (p n : ℕ) → Ok (E.Leaf j p n) ≡ extent_at s d at → ContentLies s p (part s p n) (p + n)
  content-part d at j p n x =
      let i = subst (Inside s at) (sym x) (extent-inside s at d) in
      let e = length_part s p n i.inside in
      record { bytes = ap (part s p) e; ends = ap (λ (m : ℕ). p + m) e; inside = i.inside }

  -- ---- items and entries
  pub items_lie : (d n at : ℕ) (vs : Items) (end : ℕ) → items (value_at s d) n at ≡ parsed vs end → ItemsLie s d at vs end
  unfolding ItemsLie items
  items_lie d zero at vs end e = let a : no_items ≡ vs = cc e in let b : at ≡ end = cc e in rw (← a) b
  items_lie d (suc n) at vs end e =
      let i = first-item (value_at s d) n at vs end e in
      rw i.all (refl, i.next, i.value, items_lie d n i.next i.rest end i.others)

  pub key-lies : (seen : List (List ℕ)) (at : ℕ) (x : KeyText) (q : ℕ) → key_at s seen at ≡ parsed x q → KeyLies s at x.start x.content q
  key-lies seen at x q f = by (key-tells s seen at) f
    where
      by : {g : Parse KeyText} → KeyTells s seen at g → g ≡ parsed x q → KeyLies s at x.start x.content q
      by (Keys.none why place) f = cc f
      by (Keys.new j y g h) f =
          let a : ◌≡◌ {A = KeyText} (record { start = j.start; content = part s j.start j.size }) x = cc f in
          let b : j.start + j.size ≡ q = cc f in
          let w = key-as-string s at j most_open y in
          let c = content-part most_open at L.String j.start j.size w in
          let e = length_part s j.start j.size c.inside in
          subst (λ (r : ℕ). KeyLies s at x.start x.content r) b (subst (λ (r : KeyText). KeyLies s at r.start r.content (j.start + j.size)) a (
          record {
            peeked = ap (λ (m : ℕ). Some (H.String j.start m)) e
                ∙ ap (λ (head : Head). Some head) (string-head s L.String j.start j.size refl c.inside) ∙ peek-leaf s at L.String j.start j.size w;
            skipped = skip-leaf s most_open at L.String j.start j.size w;
            content = c;
          }
          ))

  pub entries-lie : (d : ℕ) (seen : List (List ℕ)) (n at : ℕ) (es : Entries) (end : ℕ) → entries s (value_at s d) seen n at ≡ parsed es end → EntriesLie s d at es end
  unfolding EntriesLie entries
  entries-lie d seen zero at es end e = let a : no-entries ≡ es = cc e in let b : at ≡ end = cc e in rw (← a) b
  entries-lie d seen (suc n) at es end e =
      let i = first_entry_lem s (value_at s d) seen n at es end e in
      rw i.all (refl, key-lies seen at i.k i.place i.key, i.next, i.value, entries-lie d (i.k.content ∷ seen) n i.next i.rest end i.others)

  -- ---- by kind
  module _ (d at : ℕ) where
    leaf-parts : (j : Leaf) (p n : ℕ) → Ok (E.Leaf j p n) ≡ extent_at s d at → PartsLie s d (leaf_value s j p n) (p + n)
    unfolding leaf_value
    leaf-parts L.Null p n x = tt
    leaf-parts L.Boolean p n x = tt
    leaf-parts L.Integer p n x = tt
    leaf-parts L.Float p n x = tt
    leaf-parts L.Bytes p n x = content-part d at L.Bytes p n x
    leaf-parts L.String p n x = content-part d at L.String p n x

    -- the parts of what was read
    abbrev ParsedParts : Parse Value → Type 0
    ParsedParts (parsed v q) = PartsLie s d v q
    ParsedParts (failed why place) = Unit {0}

    parts-step : {g : Parse Value} → ValueTells s d at g → ParsedParts g
    parts-step (Steps.leaf j p n x h) = leaf-parts j p n x
    parts-step (Steps.list p n vs end x h) =
        rw (items-count (value_at s (d - 1)) n p vs end h).1 (items_lie (d - 1) n p vs end h)
    parts-step (Steps.dictionary p n es end x h) =
        rw (entries-count s (value_at s (d - 1)) [] n p es end h).1 (entries-lie (d - 1) [] n p es end h)
    parts-step (Steps.structure p n vs end x r h) =
        rw (items-count (value_at s (d - 1)) n (p + 1) vs end h).1 (items_lie (d - 1) n (p + 1) vs end h)
    parts-step (Steps.none why place) = tt

-- ---- every value
pub placement : Claim
placement s d at l v end e =
    let b = value-bounds s d at v end e in
    record {
      past = b.0;
      inside = b.1;
      peeked = peek-step s d at l (value_tells s d at) v end e;
      skipped = skip-reads s d most_open l at v end e;
      parts = subst (ParsedParts s d at) e (parts-step s d at (value_tells s d at));
    }
