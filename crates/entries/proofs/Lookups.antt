-- What the walk of a Dictionary notes is what its entries say: each name comes at most once. Assumes nothing.
use mathlib.Core.Path.{◌≡◌, refl, sym, ap, ◌∙◌, subst}
use mathlib.Core.Bool.{Bool, true, false, cond, true≢false, false≢true}
use mathlib.Core.List.{List, [], ◌∷◌}
use Prim.Native.Nat.{ℕ, zero, suc, ◌≤◌, ◌<◌}
use native.Mathlib.Omega.{arith}
use lib.ListN.{length, get_or, length-set, get_or-replicate}
use lib.Seq.{get_or-set_same, get_or-set_other}
use borrow.Author.Tests.{ne_eqb}
use Rattle.slices.specs.Parts.{part}
use Rattle.markers.specs.Value.{Value, Entries, no-entries, entry, count_entries}
use Rattle.values.specs.Decode.{Parse, parsed, repeats, KeyText, key_at, entries, value_at}
use Rattle.slices.specs.Equality.{same}
use Rattle.markers.specs.Extents.{most_open}
use Rattle.values.specs.Private.Placement.{EntriesLie}
use Rattle.values.proofs.KeySearch as Keys
use Rattle.values.proofs.KeySearch.{KeyTells, key-tells}
use Rattle.values.proofs.Steps.{FirstEntry, first_entry_lem, entries-count}
use Rattle.values.proofs.Placement.{placement, entries-lie}
use Rattle.entries.specs.Numbering.{names, name_of, index_of}
use Rattle.entries.specs.Lookup.{held, under}
use Rattle.std.specs.Prelude.{option_map}
use Rattle.markers.specs.Extents.{span}
use Rattle.entries.specs.View.{entry_of, seen}
use Rattle.entries.specs.Walk.{string_found, note, noted_from, nothing, entry_at, entry_in}
use Rattle.entries.proofs.Naming.{index-of-name, name-of-index}
use Rattle.entries.proofs.Peeking.{string-within}
use Rattle.entries.proofs.Trees.{view-there}
use Rattle.entries.proofs.Extras.{entry-is}
use Rattle.slices.proofs.Equality.{same-equal}

-- ---- the place of the value under a name, or else d
unfoldable pub place_of : Entries → List ℕ → ℕ → ℕ
place_of no-entries name d = d
place_of (entry at start key place v es) name d = cond (same key name) place (place_of es name d)

-- ---- names that come once
differs : (key name : List ℕ) (before : List (List ℕ)) → repeats key before ≡ false → repeats name before ≡ true → same key name ≡ false
differs key name before h r = by (same key name) refl
  where
    by : (t : Bool) → same key name ≡ t → same key name ≡ false
    by false e = e
    by true e = absurd (false≢true (sym h ∙ ap (λ (k : List ℕ). repeats k before) (same-equal key name e) ∙ r))

module _ (s : List ℕ) (f : ℕ → Parse Value) where
  key-new : (before : List (List ℕ)) (at : ℕ) (x : KeyText) (q : ℕ) → key_at s before at ≡ parsed x q → repeats x.content before ≡ false
  key-new before at x q e = by (key-tells s before at) e
    where
      by : {g : Parse KeyText} → KeyTells s before at g → g ≡ parsed x q → repeats x.content before ≡ false
      by (Keys.none why place) g = let z : ◌≡◌ {A = ℕ} 0 1 = cc g in absurd (omega arith)
      by (Keys.new k j u r) g =
          let a : ◌≡◌ {A = KeyText} (record { start = k.start; content = part s k.start k.size }) x = cc g in
          subst (λ (y : KeyText). repeats y.content before ≡ false) a r

  -- a name that was seen does not come again
  pub seen-once : (name : List ℕ) (n : ℕ) (before : List (List ℕ)) (at : ℕ) (es : Entries) (end : ℕ) → entries s f before n at ≡ parsed es end
      → repeats name before ≡ true → (d : ℕ) → place_of es name d ≡ d
  unfolding entries place_of repeats
  seen-once name zero before at es end e r d = let a : no-entries ≡ es = cc e in rw (← a)
  seen-once name (suc n) before at es end e r d =
      let i = first_entry_lem s f before n at es end e in
      let other = differs i.k.content name before (key-new before at i.k i.place i.key) r in
      let again : repeats name (i.k.content ∷ before) ≡ true = rw (other, r) in
      rw (i.all, other) (seen-once name n (i.k.content ∷ before) i.next i.rest end i.others again d)

-- ---- the walk over the tree: what is noted at the k-th name
unfoldable pub noted_in : List ℕ → Entries → List ℕ
noted_in found no-entries = found
noted_in found (entry at start key place v es) = noted_in (note found key place) es

module _ (s : List ℕ) (f : ℕ → Parse Value) (k : ℕ) (known : k < 12) where
  -- a key that is the k-th name is noted at k, and another is not
  noted_here : (found key : List ℕ) (place : ℕ) → length found ≡ 13 → same key (name_of k) ≡ true → get_or (note found key place) k 0 ≡ place
  noted_here found key place l e =
      let j : index_of key names ≡ k = ap (λ (x : List ℕ). index_of x names) (same-equal key (name_of k) e) ∙ index-of-name k known in
      rw j (get_or-set_same found k place 0 (omega arith))

  noted-elsewhere : (found key : List ℕ) (place : ℕ) → same key (name_of k) ≡ false → get_or (note found key place) k 0 ≡ get_or found k 0
  noted-elsewhere found key place e = get_or-set_other found (index_of key names) k place 0 (λ j. other (sym j))
    where
      other : index_of key names ≡ k → ⊥
      other j =
          let l : index_of key names < length names = omega arith in
          true≢false (sym (name-of-index key names l) ∙ ap (λ (i : ℕ). same key (name_of i)) j ∙ e)

  pub noted-place : (n : ℕ) (before : List (List ℕ)) (at : ℕ) (es : Entries) (end : ℕ) → entries s f before n at ≡ parsed es end
      → (found : List ℕ) → length found ≡ 13 → get_or (noted_in found es) k 0 ≡ place_of es (name_of k) (get_or found k 0)
  unfolding entries noted_in place_of repeats
  noted-place zero before at es end e found l = let a : no-entries ≡ es = cc e in rw (← a)
  noted-place (suc n) before at es end e found l =
      let i = first_entry_lem s f before n at es end e in
      let key = i.k.content in
      let after = note found key i.place in
      rw i.all (noted-place n (key ∷ before) i.next i.rest end i.others after (simp length-set l)
      ∙ by i (same key (name_of k)) refl)
    where
      by : (i : FirstEntry s f before n at es end) (t : Bool) → same i.k.content (name_of k) ≡ t
          → place_of i.rest (name_of k) (get_or (note found i.k.content i.place) k 0) ≡ cond t i.place (place_of i.rest (name_of k) (get_or found k 0))
      by i true g =
          let again : repeats (name_of k) (i.k.content ∷ before) ≡ true = rw g in
          seen-once s f (name_of k) n (i.k.content ∷ before) i.next i.rest end i.others again _ ∙ noted_here found i.k.content i.place l g
      by i false g = ap (place_of i.rest (name_of k)) (noted-elsewhere found i.k.content i.place g)

-- ---- the walk over the message is the walk over the tree
module _ (s : List ℕ) (d : ℕ) (shallow : d ≤ most_open) where
  pub walk-there : (es : Entries) (at end : ℕ) → EntriesLie s d at es end → (found : List ℕ) → noted_from s (count_entries es) at found ≡ noted_in found es
  unfolding EntriesLie noted_from noted_in count_entries
  walk-there no-entries at end lie found = refl
  walk-there (entry place start key after v es) at end lie found =
      let next = lie.2 in
      let here = placement s d after shallow v next lie.3 in
      let content = lie.1.content in
      rw (← lie.1.peeked, content.bytes, content.ends, ← here.skipped) (walk-there es next end lie.4 (note found key after))

  -- the entry at the place of a name's value is what stands under the name
  pub entry-there : (name : List ℕ) (es : Entries) (at end : ℕ) → EntriesLie s d at es end → entry_at s (place_of es name 0) ≡ seen (under es name)
  unfolding EntriesLie place_of under
  entry-there name no-entries at end lie = refl
  entry-there name (entry place start key after v es) at end lie = by (same key name) (entry-there name es lie.2 end lie.4)
    where
      past : after ≡ 0 → ⊥
      past z =
          let w = string-within s at (span start (length key)) (ap string_found lie.1.peeked) in
          omega (arith, w.past, lie.1.content.ends)

      here : entry_at s after ≡ seen (held after v)
      here = ap (option_map (entry_of after)) (rw (ne_eqb after 0 past) (view-there s d shallow after v lie.2 lie.3))

      by : (t : Bool) → entry_at s (place_of es name 0) ≡ seen (under es name) → entry_at s (cond t after (place_of es name 0)) ≡ seen (cond t (held after v) (under es name))
      by true later = here
      by false later = later

  -- so what is noted is what the entries say
  pub noted-there : (n at : ℕ) (es : Entries) (end : ℕ) → entries s (value_at s d) [] n at ≡ parsed es end
      → (k : ℕ) → k < 12 → entry_in s (noted_from s n at nothing) (name_of k) ≡ seen (under es (name_of k))
  noted-there n at es end e k h =
      let lie = entries-lie s d [] n at es end e in
      let walked : noted_from s n at nothing ≡ noted_in nothing es =
      ap (λ (m : ℕ). noted_from s m at nothing) (sym (entries-count s (value_at s d) [] n at es end e).0) ∙ walk-there es at end lie nothing in
      let zeros : get_or nothing k 0 ≡ 0 = get_or-replicate 13 k 0 0 (omega arith) in
      sym (entry-is s (noted_from s n at nothing) k h)
      ∙ ap (λ (l : List ℕ). entry_at s (get_or l k 0)) walked
      ∙ ap (entry_at s) (noted-place s (value_at s d) k h n [] at es end e nothing refl ∙ ap (place_of es (name_of k)) zeros)
      ∙ entry-there (name_of k) es at end lie
