-- Laws of reading from left to right: where a reading ends, and one step of each reading. Assumes nothing.
use mathlib.Core.Path.{◌≡◌, refl, sym, ap, ◌∙◌, subst}
use mathlib.Core.Bool.{Bool, true, false, cond}
use mathlib.Core.List.{List, [], ◌∷◌}
use Prim.Native.Nat.{ℕ, zero, suc, ◌+◌, ◌-◌, ◌≤◌, ◌<◌}
use native.Mathlib.Nat.{le_refl}
use native.Mathlib.Omega.{arith}
use borrow.Author.Tests.{lt-ltb, le-ltb, ltb-true}
use lib.Dec.{ltb}
use lib.ListN.{length, get_or}
use Rattle.std.specs.Prelude.{Result, Ok, Err}
use Rattle.slices.specs.Parts.{part}
use Rattle.refusal.specs.declared.Fault.{Fault}
use Rattle.refusal.specs.Answer.{placed}
use Rattle.refusal.specs.declared.Refusal.{Refusal}
use Rattle.refusal.specs.declared.Refusal.TheVariants.{ValueTruncated, TooDeep, InvalidUtf8}
use Rattle.markers.specs.Value as Tree
use Rattle.markers.specs.Value.{Value, Items, no_items, item, Entries, no-entries, entry, count, count_entries, first, first_entry}
use Rattle.values.specs.Decode.{Parse, parsed, failed, and_then, mapped, is_text, leaf_value, leaf_at, KeyText, key_at, items, entries, structure_at, container_at, value_of, value_at}
use Rattle.markers.specs.Extents.{extent_at}
use Rattle.values.specs.Private.Steps.{step_of}
use Rattle.markers.specs.declared.kind.Leaf.{Leaf}
use Rattle.markers.specs.declared.kind.Leaf.TheVariants as L
use Rattle.markers.specs.declared.kind.Container.{Container}
use Rattle.markers.specs.declared.kind.Container.TheVariants as C
use Rattle.markers.specs.declared.extent.Extent.{Extent}
use Rattle.markers.specs.declared.extent.Extent.TheVariants as E
use Rattle.markers.proofs.Extents.{Inside, SpanInside, extent-inside, key-inside, room_for}
use Rattle.values.proofs.Leaves.{leaf-text, leaf-no-text}
use Rattle.values.proofs.KeySearch as Keys
use Rattle.values.proofs.KeySearch.{KeyTells, key-tells}

-- ---- where a reading from p in a message of n bytes ends: past p; or at p or past it
abbrev pub Past : {A : Type 0} → ℕ → ℕ → Parse A → Type 0
Past n p (parsed a q) = (p < q) × (q ≤ n)
Past n p (failed why place) = Unit {0}

abbrev pub Reaches : {A : Type 0} → ℕ → ℕ → Parse A → Type 0
Reaches n p (parsed a q) = (p ≤ q) × (q ≤ n)
Reaches n p (failed why place) = Unit {0}

module _ {A B : Type 0} (n p : ℕ) where
  reaches_then : (g : Parse A) (k : A → ℕ → Parse B) → Past n p g → ((a : A) (q : ℕ) → p < q → q ≤ n → Reaches n q (k a q)) → Reaches n p (and_then g k)
  reaches_then (parsed a q) k h f = on (k a q) (f a q h.0 h.1)
    where
      on : (r : Parse B) → Reaches n q r → Reaches n p r
      on (parsed b r) l = (omega (arith, l.0, h.0), l.1)
      on (failed why place) l = tt
  reaches_then (failed why place) k h f = tt

  reaches-mapped : (w : A → B) (g : Parse A) → Reaches n p g → Reaches n p (mapped w g)
  reaches-mapped w (parsed a q) h = h
  reaches-mapped w (failed why place) h = tt

  past-mapped : (w : A → B) (q : ℕ) → p < q → (g : Parse A) → Reaches n q g → Past n p (mapped w g)
  past-mapped w q l (parsed a r) h = (omega (arith, h.0), h.1)
  past-mapped w q l (failed why place) h = tt

pub past-key : (s : List ℕ) (seen : List (List ℕ)) (at : ℕ) → Past (length s) at (key_at s seen at)
past-key s seen at = by (key-tells s seen at)
  where
    by : {g : Parse KeyText} → KeyTells s seen at g → Past (length s) at g
    by (Keys.new k x f h) = let i = subst (SpanInside s at L.String) (sym x) (key-inside s at) in (i.past, i.inside)
    by (Keys.none why place) = tt

module _ (n : ℕ) (f : ℕ → Parse Value) (past : (p : ℕ) → Past n p (f p)) where
  reaches-items : (m p : ℕ) → p ≤ n → Reaches n p (items f m p)
  unfolding items
  reaches-items zero p l = (le_refl p, l)
  reaches-items (suc m) p l =
      reaches_then n p (f p) (λ v q. mapped (item p v) (items f m q)) (past p)
      (λ v q lt le. reaches-mapped n q (item p v) (items f m q) (reaches-items m q le))

module _ (s : List ℕ) (f : ℕ → Parse Value) (past : (p : ℕ) → Past (length s) p (f p)) where
  reaches-entries : (seen : List (List ℕ)) (m p : ℕ) → p ≤ length s → Reaches (length s) p (entries s f seen m p)
  unfolding entries
  reaches-entries seen zero p l = (le_refl p, l)
  reaches-entries seen (suc m) p l =
      reaches_then (length s) p (key_at s seen p)
      (λ k q. and_then (f q) (λ v r. mapped (entry p k.start k.content q v) (entries s f (k.content ∷ seen) m r))) (past-key s seen p)
      (λ k q lt le. reaches_then (length s) q (f q) (λ v r. mapped (entry p k.start k.content q v) (entries s f (k.content ∷ seen) m r)) (past q)
      (λ v r lt2 le2. reaches-mapped (length s) r (entry p k.start k.content q v) (entries s f (k.content ∷ seen) m r)
      (reaches-entries (k.content ∷ seen) m r le2)))

  past_of : (at : ℕ) (x : Result Extent Fault) → Inside s at x → Past (length s) at (value_of s f at x)
  unfolding leaf_at
  past_of at (Ok (E.Leaf k p n)) i = by (is_text k (part s p n))
    where
      by : (t : Bool) → Past (length s) at (cond t (parsed (leaf_value s k p n) (p + n)) (failed InvalidUtf8 at))
      by true = (i.past, i.inside)
      by false = tt
  past_of at (Ok (E.Container C.List p n)) i = past-mapped (length s) at Tree.list p i.past (items f n p) (reaches-items (length s) f past n p i.inside)
  past_of at (Ok (E.Container C.Dictionary p n)) i =
      past-mapped (length s) at Tree.dictionary p i.past (entries s f [] n p) (reaches-entries [] n p i.inside)
  past_of at (Ok (E.Container C.Structure p n)) i = by (ltb p (length s)) refl
    where
      by : (t : Bool) → ltb p (length s) ≡ t
          → Past (length s) at (cond t (mapped (Tree.structure (get_or s p 0)) (items f n (p + 1))) (failed ValueTruncated at))
      by true e =
          let l = ltb-true p (length s) e in
          past-mapped (length s) at (Tree.structure (get_or s p 0)) (p + 1) (omega (arith, i.past)) (items f n (p + 1))
          (reaches-items (length s) f past n (p + 1) (omega arith))
      by false e = tt
  past_of at (Err fault) i = tt

-- a value ends past its marker and inside the message
pub past_value : (s : List ℕ) (depth at : ℕ) → Past (length s) at (value_at s depth at)
unfolding value_at
past_value s zero at = past_of s (λ p. failed TooDeep p) (λ p. tt) at (extent_at s zero at) (extent-inside s at zero)
past_value s (suc depth) at = past_of s (λ p. value_at s depth p) (λ p. past_value s depth p) at (extent_at s (suc depth) at) (extent-inside s at (suc depth))

-- ---- what a reader's answer tells of the reading
pub step-to : {A : Type 0} (g : Parse A) (q : ℕ) → Ok q ≡ step_of g → (a : A) × (g ≡ parsed a q)
step-to (parsed a p) q e = let i : q ≡ p = cc e in (a, ap (parsed a) (sym i))
step-to (failed why place) q e = cc e

pub step-refused : {A : Type 0} (g : Parse A) (fault : Fault) → Err fault ≡ step_of g → g ≡ failed fault.refusal fault.place
step-refused (parsed a p) fault e = cc e
step-refused (failed w p) fault e = let f : fault ≡ placed w p = cc e in rw f

-- what is made of it does not matter
pub step-mapped : {A B : Type 0} (w : A → B) (g : Parse A) → step_of (mapped w g) ≡ step_of g
step-mapped w (parsed a q) = refl
step-mapped w (failed why place) = refl

pub value-bounds : (s : List ℕ) (depth at : ℕ) (v : Value) (q : ℕ) → value_at s depth at ≡ parsed v q → (at < q) × (q ≤ length s)
value-bounds s depth at v q e = subst (Past (length s) at) e (past_value s depth at)

-- ---- a value by its extent
module _ (s : List ℕ) (depth at : ℕ) where
  pub by-leaf : (k : Leaf) (p n : ℕ) → Ok (E.Leaf k p n) ≡ extent_at s depth at → leaf_at s at k p n ≡ value_at s depth at
  unfolding value_at
  by-leaf k p n e = by depth e
    where
      by : (d : ℕ) → Ok (E.Leaf k p n) ≡ extent_at s d at → leaf_at s at k p n ≡ value_at s d at
      by zero e = ap (value_of s (λ p. failed TooDeep p) at) e
      by (suc d) e = ap (value_of s (λ p. value_at s d p) at) e

  pub by-refused : (fault : Fault) → Err fault ≡ extent_at s depth at → failed fault.refusal fault.place ≡ value_at s depth at
  unfolding value_at
  by-refused fault e = by depth e
    where
      by : (d : ℕ) → Err fault ≡ extent_at s d at → failed fault.refusal fault.place ≡ value_at s d at
      by zero e = ap (value_of s (λ p. failed TooDeep p) at) e
      by (suc d) e = ap (value_of s (λ p. value_at s d p) at) e

  pub by-container : (k : Container) (p n : ℕ) → Ok (E.Container k p n) ≡ extent_at s depth at → container_at s (value_at s (depth - 1)) at k p n ≡ value_at s depth at
  unfolding value_at
  by-container k p n e = by depth e (room_for s depth at k p n e)
    where
      by : (d : ℕ) → Ok (E.Container k p n) ≡ extent_at s d at → 1 ≤ d → container_at s (value_at s (d - 1)) at k p n ≡ value_at s d at
      by zero e l = absurd (omega arith)
      by (suc d) e l =
          let m : suc d - 1 ≡ d = omega arith in
          ap (λ (j : ℕ). container_at s (value_at s j) at k p n) m ∙ ap (value_of s (λ p. value_at s d p) at) e

  -- a container of the kind that was found
  pub container-as : (k j : Container) (p n : ℕ) → k ≡ j → Ok (E.Container k p n) ≡ extent_at s depth at
      → container_at s (value_at s (depth - 1)) at j p n ≡ value_at s depth at
  container-as k j p n f e = ap (λ (i : Container). container_at s (value_at s (depth - 1)) at i p n) (sym f) ∙ by-container k p n e

  -- a List is read through its items, a Dictionary through its entries
  pub by-items : (k : Container) (p n : ℕ) → k ≡ C.List → Ok (E.Container k p n) ≡ extent_at s depth at
      → step_of (items (value_at s (depth - 1)) n p) ≡ step_of (value_at s depth at)
  by-items k p n f e = sym (step-mapped Tree.list (items (value_at s (depth - 1)) n p)) ∙ ap step_of (container-as k C.List p n f e)

  pub by_entries_lem : (k : Container) (p n : ℕ) → k ≡ C.Dictionary → Ok (E.Container k p n) ≡ extent_at s depth at
      → step_of (entries s (value_at s (depth - 1)) [] n p) ≡ step_of (value_at s depth at)
  by_entries_lem k p n f e =
      sym (step-mapped Tree.dictionary (entries s (value_at s (depth - 1)) [] n p)) ∙ ap step_of (container-as k C.Dictionary p n f e)

-- ---- items and entries one by one
-- of n items i are read; the others, from p on, are still to be read
abbrev pub ItemsLeft : (ℕ → Parse Value) → ℕ → ℕ → ℕ → ℕ → Type 0
ItemsLeft f n start i p = step_of (items f n start) ≡ step_of (items f (n - i) p)

module _ (f : ℕ → Parse Value) (n start : ℕ) where
  pub items-none : ItemsLeft f n start 0 start
  items-none = let z : n - 0 ≡ n = omega arith in rw z

  module _ (i p : ℕ) (so_far : ItemsLeft f n start i p) where
    pub items-done : n ≤ i → step_of (items f n start) ≡ Ok p
    unfolding items
    items-done h = let z : n - i ≡ 0 = omega arith in so_far ∙ rw z

    module _ (h : i < n) where
      pub items-next : (v : Value) (q : ℕ) → f p ≡ parsed v q → ItemsLeft f n start (i + 1) q
      unfolding items
      items-next v q e =
          let m : n - i ≡ suc (n - (i + 1)) = omega arith in
          so_far ∙ rw (m, e) (step-mapped (item p v) (items f (n - (i + 1)) q))

      pub items-stop : (fault : Fault) → f p ≡ failed fault.refusal fault.place → step_of (items f n start) ≡ Err fault
      unfolding items
      items-stop fault e = let m : n - i ≡ suc (n - (i + 1)) = omega arith in so_far ∙ rw (m, e)

-- of n entries i are read, with the keys `seen`
abbrev pub EntriesLeft : List ℕ → (ℕ → Parse Value) → ℕ → ℕ → ℕ → ℕ → List (List ℕ) → Type 0
EntriesLeft s f n start i p seen = step_of (entries s f [] n start) ≡ step_of (entries s f seen (n - i) p)

module _ (s : List ℕ) (f : ℕ → Parse Value) (n start : ℕ) where
  pub entries_none : EntriesLeft s f n start 0 start []
  entries_none = let z : n - 0 ≡ n = omega arith in rw z

  module _ (i p : ℕ) (seen : List (List ℕ)) (so_far : EntriesLeft s f n start i p seen) where
    pub entries-done : n ≤ i → step_of (entries s f [] n start) ≡ Ok p
    unfolding entries
    entries-done h = let z : n - i ≡ 0 = omega arith in so_far ∙ rw z

    module _ (h : i < n) where
      pub entries-stop : (fault : Fault) → key_at s seen p ≡ failed fault.refusal fault.place → step_of (entries s f [] n start) ≡ Err fault
      unfolding entries
      entries-stop fault e = let m : n - i ≡ suc (n - (i + 1)) = omega arith in so_far ∙ rw (m, e)

      module _ (k : KeyText) (q : ℕ) (key : key_at s seen p ≡ parsed k q) where
        pub entries-halt : (fault : Fault) → f q ≡ failed fault.refusal fault.place → step_of (entries s f [] n start) ≡ Err fault
        unfolding entries
        entries-halt fault e = let m : n - i ≡ suc (n - (i + 1)) = omega arith in so_far ∙ rw (m, key, e)

        pub entries_next : (v : Value) (r : ℕ) → f q ≡ parsed v r → EntriesLeft s f n start (i + 1) r (k.content ∷ seen)
        unfolding entries
        entries_next v r e =
            let m : n - i ≡ suc (n - (i + 1)) = omega arith in
            so_far ∙ rw (m, key, e) (step-mapped (entry p k.start k.content q v) (entries s f (k.content ∷ seen) (n - (i + 1)) r))

-- ---- what a reading that succeeded was made of
pub then-parsed : {A B : Type 0} (g : Parse A) (k : A → ℕ → Parse B) (b : B) (q : ℕ) → and_then g k ≡ parsed b q
    → (a : A) × (p : ℕ) × (g ≡ parsed a p) × (k a p ≡ parsed b q)
then-parsed (parsed a p) k b q e = (a, p, refl, e)
then-parsed (failed why place) k b q e = cc e

pub mapped-parsed : {A B : Type 0} (w : A → B) (g : Parse A) (b : B) (q : ℕ) → mapped w g ≡ parsed b q → (a : A) × (g ≡ parsed a q) × (b ≡ w a)
mapped-parsed w (parsed a p) b q e = let i : p ≡ q = cc e in let j : w a ≡ b = cc e in (a, ap (parsed a) i, sym j)
mapped-parsed w (failed why place) b q e = cc e

-- an item, and those after it
pub record FirstItem (f : ℕ → Parse Value) (n at : ℕ) (vs : Items) (end : ℕ) : Type 0 where
  pub v : Value
  pub next : ℕ
  pub rest : Items
  pub value : f at ≡ parsed v next
  pub others : items f n next ≡ parsed rest end
  pub all : vs ≡ item at v rest

pub first-item : (f : ℕ → Parse Value) (n at : ℕ) (vs : Items) (end : ℕ) → items f (suc n) at ≡ parsed vs end → FirstItem f n at vs end
unfolding items
first-item f n at vs end e =
    let a = then-parsed (f at) (λ v p. mapped (item at v) (items f n p)) vs end e in
    let b = mapped-parsed (item at a.0) (items f n a.1) vs end a.3 in
    record { v = a.0; next = a.1; rest = b.0; value = a.2; others = b.1; all = b.2 }

-- an entry, and those after it
pub record FirstEntry (s : List ℕ) (f : ℕ → Parse Value) (seen : List (List ℕ)) (n at : ℕ) (es : Entries) (end : ℕ) : Type 0 where
  pub k : KeyText
  pub place : ℕ
  pub v : Value
  pub next : ℕ
  pub rest : Entries
  pub key : key_at s seen at ≡ parsed k place
  pub value : f place ≡ parsed v next
  pub others : entries s f (k.content ∷ seen) n next ≡ parsed rest end
  pub all : es ≡ entry at k.start k.content place v rest

pub first_entry_lem : (s : List ℕ) (f : ℕ → Parse Value) (seen : List (List ℕ)) (n at : ℕ) (es : Entries) (end : ℕ) → entries s f seen (suc n) at ≡ parsed es end
    → FirstEntry s f seen n at es end
unfolding entries
first_entry_lem s f seen n at es end e =
    let a =
    then-parsed (key_at s seen at)
    (λ k p. and_then (f p) (λ v q. mapped (entry at k.start k.content p v) (entries s f (k.content ∷ seen) n q))) es end e in
    let k = a.0 in
    let b = then-parsed (f a.1) (λ v q. mapped (entry at k.start k.content a.1 v) (entries s f (k.content ∷ seen) n q)) es end a.3 in
    let c = mapped-parsed (entry at k.start k.content a.1 b.0) (entries s f (k.content ∷ seen) n b.1) es end b.3 in
    record { k = k; place = a.1; v = b.0; next = b.1; rest = c.0; key = a.2; value = b.2; others = c.1; all = c.2 }

-- as many as were asked for, the first where reading began
pub items-count : (f : ℕ → Parse Value) (n p : ℕ) (vs : Items) (q : ℕ) → items f n p ≡ parsed vs q → (count vs ≡ n) × (first vs q ≡ p)
unfolding items count
items-count f zero p vs q e = let a : no_items ≡ vs = cc e in let b : p ≡ q = cc e in rw (← a, ← b) (refl, refl)
items-count f (suc n) p vs q e =
    let i = first-item f n p vs q e in
    rw i.all (ap suc (items-count f n i.next i.rest q i.others).0, refl)

pub entries-count : (s : List ℕ) (f : ℕ → Parse Value) (seen : List (List ℕ)) (n p : ℕ) (es : Entries) (q : ℕ) → entries s f seen n p ≡ parsed es q
    → (count_entries es ≡ n) × (first_entry es q ≡ p)
unfolding entries count_entries
entries-count s f seen zero p es q e = let a : no-entries ≡ es = cc e in let b : p ≡ q = cc e in rw (← a, ← b) (refl, refl)
entries-count s f seen (suc n) p es q e =
    let i = first_entry_lem s f seen n p es q e in
    rw i.all (ap suc (entries-count s f (i.k.content ∷ seen) n i.next i.rest q i.others).0, refl)

-- ---- a Structure: its tag, and its fields
module _ (s : List ℕ) (f : ℕ → Parse Value) (at p n : ℕ) where
  pub no-tag : length s ≤ p → Err (placed ValueTruncated at) ≡ step_of (structure_at s f at p n)
  no-tag h = rw (le-ltb p (length s) h)

  pub by-fields : p < length s → step_of (items f n (p + 1)) ≡ step_of (structure_at s f at p n)
  by-fields h = rw (lt-ltb p (length s) h) (sym (step-mapped (Tree.structure (get_or s p 0)) (items f n (p + 1))))

-- ---- what the reading of a value tells
pub data ValueTells (s : List ℕ) (depth at : ℕ) : Parse Value → Type 0 where
  leaf : (k : Leaf) (p n : ℕ) → Ok (E.Leaf k p n) ≡ extent_at s depth at → is_text k (part s p n) ≡ true
      → ValueTells s depth at (parsed (leaf_value s k p n) (p + n))
  list : (p n : ℕ) (vs : Items) (end : ℕ) → Ok (E.Container C.List p n) ≡ extent_at s depth at → items (value_at s (depth - 1)) n p ≡ parsed vs end
      → ValueTells s depth at (parsed (Tree.list vs) end)
  dictionary : (p n : ℕ) (es : Entries) (end : ℕ) → Ok (E.Container C.Dictionary p n) ≡ extent_at s depth at
      → entries s (value_at s (depth - 1)) [] n p ≡ parsed es end → ValueTells s depth at (parsed (Tree.dictionary es) end)
  structure : (p n : ℕ) (vs : Items) (end : ℕ) → Ok (E.Container C.Structure p n) ≡ extent_at s depth at → p < length s
      → items (value_at s (depth - 1)) n (p + 1) ≡ parsed vs end → ValueTells s depth at (parsed (Tree.structure (get_or s p 0) vs) end)
  none : (why : Refusal) (place : ℕ) → ValueTells s depth at (failed why place)

module _ (s : List ℕ) (depth at : ℕ) where
  mapped-tells : {A : Type 0} (w : A → Value) (g : Parse A) → ((a : A) (end : ℕ) → g ≡ parsed a end → ValueTells s depth at (parsed (w a) end))
      → ValueTells s depth at (mapped w g)
  mapped-tells w (parsed a end) h = h a end refl
  mapped-tells w (failed why place) h = none why place

  value-by-extent : (x : Result Extent Fault) → x ≡ extent_at s depth at → ValueTells s depth at (value_at s depth at)
  value-by-extent (Ok (E.Leaf k p n)) e = subst (ValueTells s depth at) (by-leaf s depth at k p n e) (by (is_text k (part s p n)) refl)
    where
      by : (t : Bool) → is_text k (part s p n) ≡ t → ValueTells s depth at (leaf_at s at k p n)
      by true f = subst (ValueTells s depth at) (sym (leaf-text s at k p n f)) (leaf k p n e f)
      by false f = subst (ValueTells s depth at) (sym (leaf-no-text s at k p n f)) (none InvalidUtf8 at)
  value-by-extent (Err fault) e = subst (ValueTells s depth at) (by-refused s depth at fault e) (none fault.refusal fault.place)
  value-by-extent (Ok (E.Container C.List p n)) e =
      subst (ValueTells s depth at) (by-container s depth at C.List p n e)
      (mapped-tells Tree.list (items (value_at s (depth - 1)) n p) (λ vs end f. list p n vs end e f))
  value-by-extent (Ok (E.Container C.Dictionary p n)) e =
      subst (ValueTells s depth at) (by-container s depth at C.Dictionary p n e)
      (mapped-tells Tree.dictionary (entries s (value_at s (depth - 1)) [] n p) (λ es end f. dictionary p n es end e f))
  value-by-extent (Ok (E.Container C.Structure p n)) e =
      subst (ValueTells s depth at) (by-container s depth at C.Structure p n e) (by (ltb p (length s)) refl)
    where
      by : (t : Bool) → ltb p (length s) ≡ t
          → ValueTells s depth at (cond t (mapped (Tree.structure (get_or s p 0)) (items (value_at s (depth - 1)) n (p + 1))) (failed ValueTruncated at))
      by true f =
          mapped-tells (Tree.structure (get_or s p 0)) (items (value_at s (depth - 1)) n (p + 1))
          (λ vs end g. structure p n vs end e (ltb-true p (length s) f) g)
      by false f = none ValueTruncated at

  pub value_tells : ValueTells s depth at (value_at s depth at)
  value_tells = value-by-extent (extent_at s depth at) refl
