-- The readers of `values::value` meet their contracts. Assumes nothing.
use mathlib.Core.Path.{◌≡◌, sym, ap, ◌∙◌, subst}
use mathlib.Core.List.{List, [], ◌∷◌, ◌++◌}
use Prim.Native.Nat.{ℕ, ◌+◌, ◌-◌, ◌*◌, ◌≤◌, ◌<◌}
use native.Mathlib.Omega.{arith}
use lib.ListN.{length, take, drop, set, length-set, length-drop}
use Rattle.std.specs.Prelude.{Ok}
use borrow.Rule.Slice.PartMut.{put_mid}
use Rattle.std.proofs.Common.{rules}
use Rattle.std.proofs.lemmas.List.{take_more_set, length-take-le}
use Rattle.std.proofs.lemmas.List.Elements.{All-push}
use Rattle.std.proofs.lemmas.Slice.{take-put_mid_below}
use Rattle.values.specs.Decode.{value_at, key_at}
use Rattle.values.specs.Private.Keys.{key_of_parse, keys_of, KeysInside}
use Rattle.values.specs.Private.Steps.{step_of}
use Rattle.values.specs.declared.keys.Key.{Key}
use Rattle.markers.specs.declared.extent.Span.{Span}
use Rattle.markers.specs.declared.kind.Container.TheVariants as C
use Rattle.markers.proofs.Extents.{Inside, extent-inside, room_for}
use Rattle.values.proofs.KeySearch.{KeyRead, key-read, key-refused, keys-push}
use Rattle.values.proofs.Steps.{step-to, step-refused, value-bounds, by-leaf, by-refused, by-items, by_entries_lem, container-as, items-none, items-next, items-done, items-stop, EntriesLeft, entries_none, entries-done, entries-stop, entries-halt, entries_next}
use Rattle.values.proofs.value.+dictionary_list_structure_value.Goals as goal

-- ---- value
pub value-returns-in_err-kind : goal.value-returns-in_err-kind
value-returns-in_err-kind t c =
    let a = c.args in
    search (rules, ap step_of (by-refused a.message.now a.depth a.at _ c.in_err-kind.ensures))

pub value-read_leaf-requires : goal.value-read_leaf-requires
value-read_leaf-requires t c =
    let a = c.args in
    let i = subst (Inside a.message.now a.at) (sym (ap Ok (sym c.in-Leaf.is) ∙ c.in_ok-kind.ensures)) (extent-inside a.message.now a.at a.depth) in
    i.inside

pub value-overflow_sub-depth : goal.value-overflow_sub-depth
value-overflow_sub-depth t c = let a = c.args in room_for a.message.now a.depth a.at _ _ _ (ap Ok (sym c.in-Container.is) ∙ c.in_ok-kind.ensures)

pub value-list-requires : goal.value-list-requires
value-list-requires t c =
    let a = c.args in
    let e = ap Ok (sym c.in-Container.is) ∙ c.in_ok-kind.ensures in
    let i = subst (Inside a.message.now a.at) (sym e) (extent-inside a.message.now a.at a.depth) in
    (omega (arith, i.past, i.inside, room_for a.message.now a.depth a.at _ _ _ e), record { short = c.requires.short; enough = omega (arith, c.requires.enough, i.past) })

pub value-overflow_sub-depth-in-Dictionary : goal.value-overflow_sub-depth-in-Dictionary
value-overflow_sub-depth-in-Dictionary t c = let a = c.args in room_for a.message.now a.depth a.at _ _ _ (ap Ok (sym c.in-Container.is) ∙ c.in_ok-kind.ensures)

pub value-dictionary-requires : goal.value-dictionary-requires
value-dictionary-requires t c =
    let a = c.args in
    let e = ap Ok (sym c.in-Container.is) ∙ c.in_ok-kind.ensures in
    let i = subst (Inside a.message.now a.at) (sym e) (extent-inside a.message.now a.at a.depth) in (
      omega (arith, i.past, i.inside, room_for a.message.now a.depth a.at _ _ _ e),
      (record { short = c.requires.short; enough = omega (arith, c.requires.enough, i.past) }, omega (arith, c.requires.enough, i.past), i.inside),
    )

pub value-overflow_sub-depth-in-Structure : goal.value-overflow_sub-depth-in-Structure
value-overflow_sub-depth-in-Structure t c = let a = c.args in room_for a.message.now a.depth a.at _ _ _ (ap Ok (sym c.in-Container.is) ∙ c.in_ok-kind.ensures)

pub value-structure-requires : goal.value-structure-requires
value-structure-requires t c =
    let a = c.args in
    let e = ap Ok (sym c.in-Container.is) ∙ c.in_ok-kind.ensures in
    let i = subst (Inside a.message.now a.at) (sym e) (extent-inside a.message.now a.at a.depth) in
    (omega (arith, i.past, i.inside, room_for a.message.now a.depth a.at _ _ _ e), record { short = c.requires.short; enough = omega (arith, c.requires.enough, i.past) })

pub value-returns-in-Leaf : goal.value-returns-in-Leaf
value-returns-in-Leaf t c =
    let a = c.args in
    c.read_leaf.ensures ∙ ap step_of (by-leaf a.message.now a.depth a.at _ _ _ (ap Ok (sym c.in-Leaf.is) ∙ c.in_ok-kind.ensures))

pub value-returns-in-List : goal.value-returns-in-List
value-returns-in-List t c =
    let a = c.args in
    c.list.ensures ∙ by-items a.message.now a.depth a.at _ _ _ c.in-List.is (ap Ok (sym c.in-Container.is) ∙ c.in_ok-kind.ensures)

pub value-returns-in-Dictionary : goal.value-returns-in-Dictionary
value-returns-in-Dictionary t c =
    let a = c.args in
    c.dictionary.ensures ∙ by_entries_lem a.message.now a.depth a.at _ _ _ c.in-Dictionary.is (ap Ok (sym c.in-Container.is) ∙ c.in_ok-kind.ensures)

pub value-returns-in-Structure : goal.value-returns-in-Structure
value-returns-in-Structure t c =
    let a = c.args in
    c.structure.ensures
    ∙ ap step_of (container-as a.message.now a.depth a.at _ C.Structure _ _ c.in-Structure.is (ap Ok (sym c.in-Container.is) ∙ c.in_ok-kind.ensures))

-- ---- list
pub list-loop-init : goal.list-loop-init
list-loop-init t c = let a = c.args in (omega arith, items-none (value_at a.message.now a.depth) a.count a.first)

pub list-value-requires : goal.list-value-requires
list-value-requires t c =
    let l = c.loop in
    (omega (arith, l.invariant.0), record { short = c.requires.short; enough = omega (arith, c.requires.enough, l.invariant.0, l.auto.scratch) })

pub list-returns-in_err-at : goal.list-returns-in_err-at
list-returns-in_err-at t c =
    let a = c.args in
    let l = c.loop in
    let f = value_at a.message.now a.depth in
    search (rules, sym (items-stop f a.count a.first l.counter l.at l.invariant.1 c.loop-test.true _ (step-refused (f l.at) _ c.in_err-at.ensures)))

pub list-loop-preserved : goal.list-loop-preserved
list-loop-preserved t c =
    let a = c.args in
    let l = c.loop in
    let f = value_at a.message.now a.depth in
    let e = step-to (f l.at) _ c.in_ok-at.ensures in
    let b = value-bounds a.message.now a.depth l.at e.0 _ e.1 in
    (omega (arith, b.0, l.invariant.0), items-next f a.count a.first l.counter l.at l.invariant.1 c.loop-test.true e.0 _ e.1)

pub list-returns : goal.list-returns
list-returns t c =
    let a = c.args in
    let l = c.loop in
    sym (items-done (value_at a.message.now a.depth) a.count a.first l.counter l.at l.invariant.1 c.loop-test.false)

-- ---- structure
pub structure-list-requires : goal.structure-list-requires
structure-list-requires t c = (omega (arith, c.if-message-start.false), record { short = c.requires.short; enough = omega (arith, c.requires.enough) })

-- ---- dictionary
-- a turn read a key: its content lies inside a message that is not too long, and there is room for it and for those of what follows
record Turn (s : List ℕ) (scratch : List Key) (first at i : ℕ) (k : Span) : Type 0 where
  pub key : KeyRead s (keys_of s (take i scratch)) at k
  pub short : k.start + k.size ≤ 16384
  pub under : first + 2 * i < k.start + k.size
  pub room : length s + 2 * (i + 1) ≤ k.start + k.size + 2 * length scratch
  pub place : i < length scratch

turn : (s : List ℕ) (scratch : List Key) (first at i : ℕ) (k : Span) → length s ≤ 16384 → length s < first + 2 * length scratch → first + 2 * i ≤ at
    → Ok k ≡ key_of_parse (key_at s (keys_of s (take i scratch)) at) → Turn s scratch first at i k
turn s scratch first at i k short room h e =
    let key = key-read s (keys_of s (take i scratch)) at k e in
    let past = key.past in
    let inside = key.inside in
    record { key = key; short = omega arith; under = omega arith; room = omega arith; place = omega arith }

-- the keys after a turn: those before it, and its own
kept : (scratch : List Key) (i m : ℕ) (k : Key) (new : List Key) → i < length scratch
    → take (i + 1) (put_mid (i + 1) m (set scratch i k) new) ≡ take i scratch ++ k ∷ []
kept scratch i m k new h =
    let long = length-set scratch i k in
    take-put_mid_below (i + 1) m (set scratch i k) new (i + 1) (omega arith) (omega arith) ∙ take_more_set scratch i k h

-- how much scratch is left for what an entry holds
rest-long : (xs : List Key) (n : ℕ) → length (take (length xs - n) (drop n xs)) ≡ length xs - n
rest-long xs n = let d = length-drop n xs in length-take-le (length xs - n) (drop n xs) (omega arith)

pub dictionary-loop-i-init : goal.dictionary-loop-i-init
dictionary-loop-i-init t c =
    let a = c.args in
    (omega arith, c.requires.2, λ k d h. omega arith, entries_none a.message.now (value_at a.message.now a.depth) a.count a.first)

pub dictionary-returns-in_err-start : goal.dictionary-returns-in_err-start
dictionary-returns-in_err-start t c =
    let a = c.args in
    let l = c.loop-i in
    let f = value_at a.message.now a.depth in
    search (
      rules,
      sym (entries-stop a.message.now f a.count a.first l.i l.at _ l.invariant.3 c.loop-i-test.true _
          (key-refused a.message.now (keys_of a.message.now (take l.i l.scratch)) l.at _ c.in_err-start.ensures)),
    )

pub dictionary-overflow_cast-scratch : goal.dictionary-overflow_cast-scratch
dictionary-overflow_cast-scratch t c =
    let a = c.args in
    let l = c.loop-i in
    let r = turn a.message.now l.scratch a.first l.at l.i c.in_ok-start.field-0 c.requires.0.short (omega (arith, c.requires.1, l.auto.scratch)) l.invariant.0 c.in_ok-start.ensures in
    omega (arith, r.short)

pub dictionary-overflow_cast-scratch-in-loop-i : goal.dictionary-overflow_cast-scratch-in-loop-i
dictionary-overflow_cast-scratch-in-loop-i t c =
    let a = c.args in
    let l = c.loop-i in
    let r = turn a.message.now l.scratch a.first l.at l.i c.in_ok-start.field-0 c.requires.0.short (omega (arith, c.requires.1, l.auto.scratch)) l.invariant.0 c.in_ok-start.ensures in
    omega (arith, r.short)

pub dictionary-overflow_add-start : goal.dictionary-overflow_add-start
dictionary-overflow_add-start t c =
    let a = c.args in
    let l = c.loop-i in
    let r = turn a.message.now l.scratch a.first l.at l.i c.in_ok-start.field-0 c.requires.0.short (omega (arith, c.requires.1, l.auto.scratch)) l.invariant.0 c.in_ok-start.ensures in
    omega (arith, r.short)

pub dictionary-value-requires : goal.dictionary-value-requires
dictionary-value-requires t c =
    let a = c.args in
    let l = c.loop-i in
    let r = turn a.message.now l.scratch a.first l.at l.i c.in_ok-start.field-0 c.requires.0.short (omega (arith, c.requires.1, l.auto.scratch)) l.invariant.0 c.in_ok-start.ensures in
    let k : Key = record { start = c.in_ok-start.field-0.start; size = c.in_ok-start.field-0.size } in
    let long = length-set l.scratch l.i k in
    let rest = rest-long (set l.scratch l.i k) (l.i + 1) in
    (omega (arith, r.under, r.key.inside), record { short = c.requires.0.short; enough = omega (arith, r.room, r.place, long, rest) })

pub dictionary-returns-in_err-at : goal.dictionary-returns-in_err-at
dictionary-returns-in_err-at t c =
    let a = c.args in
    let l = c.loop-i in
    let f = value_at a.message.now a.depth in
    let r = turn a.message.now l.scratch a.first l.at l.i c.in_ok-start.field-0 c.requires.0.short (omega (arith, c.requires.1, l.auto.scratch)) l.invariant.0 c.in_ok-start.ensures in
    search (
      rules,
      sym (entries-halt a.message.now f a.count a.first l.i l.at _ l.invariant.3 c.loop-i-test.true _ _ r.key.parse _ (step-refused (f _) _ c.in_err-at.ensures)),
    )

pub dictionary-loop-i-preserved : goal.dictionary-loop-i-preserved
dictionary-loop-i-preserved t c =
    let a = c.args in
    let l = c.loop-i in
    let s = a.message.now in
    let f = value_at s a.depth in
    let r = turn s l.scratch a.first l.at l.i c.in_ok-start.field-0 c.requires.0.short (omega (arith, c.requires.1, l.auto.scratch)) l.invariant.0 c.in_ok-start.ensures in
    let k : Key = record { start = c.in_ok-start.field-0.start; size = c.in_ok-start.field-0.size } in
    let e = step-to (f _) _ c.in_ok-at.ensures in
    let b = value-bounds s a.depth _ e.0 _ e.1 in
    let after = kept l.scratch l.i (length (set l.scratch l.i k) - (l.i + 1)) k c.value.new.scratch r.place in (
      omega (arith, b.0, r.under),
      b.1,
      subst (KeysInside s) (sym after) (All-push (λ j. j.start + j.size ≤ length s) (take l.i l.scratch) k l.invariant.2 r.key.inside),
      subst (λ (ks : List Key). EntriesLeft s f a.count a.first (l.i + 1) c.in_ok-at.at (keys_of s ks)) (sym after)
          (subst (EntriesLeft s f a.count a.first (l.i + 1) c.in_ok-at.at) (sym (keys-push s (take l.i l.scratch) k))
          (entries_next s f a.count a.first l.i l.at _ l.invariant.3 c.loop-i-test.true _ _ r.key.parse e.0 _ e.1)),
    )

pub dictionary-returns : goal.dictionary-returns
dictionary-returns t c =
    let a = c.args in
    let l = c.loop-i in
    sym (entries-done a.message.now (value_at a.message.now a.depth) a.count a.first l.i l.at _ l.invariant.3 c.loop-i-test.false)
