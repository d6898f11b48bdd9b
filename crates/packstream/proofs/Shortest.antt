-- No accepted form is shorter than the packed one; and the accepted forms of an Integer. Assumes nothing.
use mathlib.Core.Path.{◌≡◌, refl, sym, ap, ◌∙◌, subst}
use mathlib.Core.List.{List, [], ◌∷◌, ◌++◌}
use Prim.Native.Nat.{ℕ, zero, suc, ◌+◌, ◌≤◌}
use native.Mathlib.Omega.{arith}
use lib.Dec.{ltb}
use lib.IntN.{ℤ}
use lib.ListN.{length, get_or, length-append}
use lib.Seq.{take_all}
use Rattle.slices.specs.Parts.{part}
use Rattle.numbers.specs.BigEndian.{bytes_of, Bytes}
use Rattle.numbers.specs.TwosComplement.{bits_of}
use Rattle.numbers.proofs.BigEndian.{length-bytes_of}
use Rattle.numbers.proofs.Access.{width-most}
use Rattle.utf8.specs.Utf8.{utf8}
use Rattle.refusal.specs.Answer.{returned}
use Rattle.refusal.specs.declared.Refusal.TheVariants.{TooDeep}
use Rattle.markers.specs.Value.{Value, null, boolean, integer, float, bytes, string, list, dictionary, structure, Items, no_items, item, count, Entries, no-entries, entry, count_entries, relocate, relocate_items, relocate_entries, forget}
use Rattle.markers.specs.Extents.{extent_at, key_extent_at, most_open}
use Rattle.values.specs.Decode.{Parse, parsed, failed, leaf_value, leaf_at, is_text, items, repeats, KeyText, key_of, key_at, entries, container_at, value_of, value_at, decode}
use Rattle.packing.specs.Packing.{wide, header_length, pack_string, list_header, dictionary_header, pack, pack_items, pack_entries}
use Rattle.packstream.specs.Shortest.{Shortest, IntegerForm, itself, behind, IntegerForms, Claim}
use Rattle.markers.specs.declared.kind.Leaf.{Leaf}
use Rattle.markers.specs.declared.kind.Container.{Container}
use Rattle.markers.specs.declared.kind.Container.TheVariants as C
use Rattle.markers.specs.declared.marker.Kind.TheVariants as K
use Rattle.std.specs.Prelude.{Result, Ok, Err}
use Rattle.refusal.specs.declared.Fault.{Fault}
use Rattle.markers.specs.declared.extent.Span.{Span}
use Rattle.markers.specs.declared.kind.Leaf.TheVariants as L
use Rattle.markers.specs.declared.extent.Extent.{Extent}
use Rattle.markers.specs.declared.extent.Extent.TheVariants as E
use Rattle.markers.proofs.Extents.{Inside, SpanInside, LeafInside, extent-inside, key-inside}
use Rattle.packing.proofs.Packing.{length-wide, length_header}
use Rattle.packstream.proofs.Here.{here-alone}
use Rattle.packstream.proofs.Headers.{Header, by-test, Headed, KeyHeaded, headed, key-headed}
use Rattle.packstream.proofs.Ends.{Ends, ends-then, ends-mapped, ends-any, decoded}
use Rattle.packstream.proofs.Forms.{Formed, integer-formed, list-least, dictionary-least, structure-least, string-least, leaf-least}
use Rattle.packstream.proofs.RoundTrip.{read-tiny, read_wide, read_whole}

-- an Integer has one of its forms
abbrev FormedAt : List ℕ → ℕ → Value → ℕ → Type 0
FormedAt s at null end = Unit {0}
FormedAt s at (boolean b) end = Unit {0}
FormedAt s at (integer z) end = Formed s at z end
FormedAt s at (float bits) end = Unit {0}
FormedAt s at (bytes start v) end = Unit {0}
FormedAt s at (string start v) end = Unit {0}
FormedAt s at (list vs) end = Unit {0}
FormedAt s at (dictionary es) end = Unit {0}
FormedAt s at (structure tag vs) end = Unit {0}

-- what was read takes at least its packed form
abbrev Least : ℕ → Value → ℕ → Type 0
Least at v end = at + length (pack v) ≤ end

abbrev LeastKey : ℕ → KeyText → ℕ → Type 0
LeastKey at k end = at + length (pack_string k.content) ≤ end

abbrev LeastItems : ℕ → ℕ → Items → ℕ → Type 0
LeastItems n at vs end = (count vs ≡ n) × (at + length (pack_items vs) ≤ end)

abbrev LeastEntries : ℕ → ℕ → Entries → ℕ → Type 0
LeastEntries n at es end = (count_entries es ≡ n) × (at + length (pack_entries es) ≤ end)

module _ (s : List ℕ) (bs : Bytes s) where
  key-least : (seen : List (List ℕ)) (at : ℕ) → Ends (key_at s seen at) (LeastKey at)
  unfolding key_at
  key-least seen at = by (key_extent_at s at) (key-headed s at) (key-inside s at)
    where
      by : (x : Result Span Fault) → KeyHeaded s at x → SpanInside s at L.String x → Ends (key_of s seen at x) (LeastKey at)
      by (Ok k) h i =
          let key = part s k.start k.size in
          by-test (λ y. Ends y (LeastKey at)) (utf8 key) _ _
          (λ t. by-test (λ y. Ends y (LeastKey at)) (repeats key seen) _ _ (λ r. tt) (λ r. string-least s bs at k.size k.start h i.inside))
          (λ t. tt)
      by (Err fault) h i = tt

  module _ (f : ℕ → Parse Value) (least : (at : ℕ) → Ends (f at) (Least at)) where
    items-least : (n at : ℕ) → Ends (items f n at) (LeastItems n at)
    unfolding items count pack_items
    items-least zero at = (refl, omega arith)
    items-least (suc n) at =
        ends-then (LeastItems (suc n) at) (f at) _ (least at) (λ v p l. ends-mapped (LeastItems (suc n) at) (item at v) (items f n p) (items-least n p) (λ vs end (c, k).
        (ap suc c, omega (arith, length-append (pack v) (pack_items vs)))))

    entries-least : (seen : List (List ℕ)) (n at : ℕ) → Ends (entries s f seen n at) (LeastEntries n at)
    unfolding entries count_entries pack_entries
    entries-least seen zero at = (refl, omega arith)
    entries-least seen (suc n) at =
        ends-then (LeastEntries (suc n) at) (key_at s seen at) _ (key-least seen at) (λ key p j. ends-then (LeastEntries (suc n) at) (f p) _ (least p) (λ v q l.
        ends-mapped (LeastEntries (suc n) at) (entry at key.start key.content p v) (entries s f (key.content ∷ seen) n q) (entries-least (key.content ∷ seen) n q)
        (λ es end (c, k). (ap suc c, omega (arith, length-append (pack_string key.content) (pack v ++ pack_entries es), length-append (pack v) (pack_entries es))))))

    container-least : (k : Container) (at p n : ℕ) → Header s at (K.Container k) n p → Ends (container_at s f at k p n) (Least at)
    unfolding pack
    container-least C.List at p n h =
        ends-mapped (Least at) list (items f n p) (items-least n p) (λ vs end (c, k).
        omega (arith, list-least s bs at n p h, length-append (list_header (count vs)) (pack_items vs), length_header 0x90 0xD4 (count vs) ∙ ap header_length c))
    container-least C.Dictionary at p n h =
        ends-mapped (Least at) dictionary (entries s f [] n p) (entries-least [] n p) (λ es end (c, k).
        omega (arith, dictionary-least s bs at n p h, length-append (dictionary_header (count_entries es)) (pack_entries es), length_header 0xA0 0xD8 (count_entries es) ∙ ap header_length c))
    container-least C.Structure at p n h =
        by-test (λ y. Ends y (Least at)) (ltb p (length s)) _ _
        (λ t. ends-mapped (Least at) (structure (get_or s p 0)) (items f n (p + 1)) (items-least n (p + 1)) (λ vs end (c, k).
        omega (arith, structure-least s bs at n p h)))
        (λ t. tt)

    value-of-least : (depth at : ℕ) → Ends (value_of s f at (extent_at s depth at)) (Least at)
    unfolding leaf_at
    value-of-least depth at = by (extent_at s depth at) (headed s at depth) (extent-inside s at depth)
      where
        by : (x : Result Extent Fault) → Headed s at x → Inside s at x → Ends (value_of s f at x) (Least at)
        by (Ok (E.Leaf k p n)) h i =
            by-test (λ y. Ends y (Least at)) (is_text k (part s p n)) _ _ (λ t. leaf-least s bs at n p k h i) (λ t. tt)
        by (Ok (E.Container k p n)) h i = container-least k at p n h
        by (Err fault) h i = tt

  value-least : (depth at : ℕ) → Ends (value_at s depth at) (Least at)
  unfolding value_at
  value-least zero at = value-of-least (λ p. failed TooDeep p) (λ p. tt) zero at
  value-least (suc depth) at = value-of-least (λ p. value_at s depth p) (λ p. value-least depth p) (suc depth) at

  -- an Integer that was read has one of its forms there
  leaf-formed : (at : ℕ) (k : Leaf) (p n : ℕ) → Header s at (K.Leaf k) n p → LeafInside s at k p n → FormedAt s at (leaf_value s k p n) (p + n)
  unfolding leaf_value
  leaf-formed at L.Null p n h i = tt
  leaf-formed at L.Boolean p n h i = tt
  leaf-formed at L.Integer p n h i = integer-formed s bs at n p h i.inside
  leaf-formed at L.Float p n h i = tt
  leaf-formed at L.Bytes p n h i = tt
  leaf-formed at L.String p n h i = tt

  value-formed : (depth at : ℕ) → Ends (value_at s depth at) (FormedAt s at)
  unfolding value_at leaf_at
  value-formed depth at = by-depth depth
    where
      by : (f : ℕ → Parse Value) (x : Result Extent Fault) → Headed s at x → Inside s at x → Ends (value_of s f at x) (FormedAt s at)
      by f (Ok (E.Leaf k p n)) h i =
          by-test (λ y. Ends y (FormedAt s at)) (is_text k (part s p n)) _ _ (λ t. leaf-formed at k p n h i) (λ t. tt)
      by f (Ok (E.Container C.List p n)) h i = ends-mapped (FormedAt s at) list (items f n p) (ends-any (items f n p)) (λ vs end t. tt)
      by f (Ok (E.Container C.Dictionary p n)) h i =
          ends-mapped (FormedAt s at) dictionary (entries s f [] n p) (ends-any (entries s f [] n p)) (λ es end t. tt)
      by f (Ok (E.Container C.Structure p n)) h i =
          by-test (λ y. Ends y (FormedAt s at)) (ltb p (length s)) _ _
          (λ t. ends-mapped (FormedAt s at) (structure (get_or s p 0)) (items f n (p + 1)) (ends-any (items f n (p + 1))) (λ vs end t. tt)) (λ t. tt)
      by f (Err fault) h i = tt

      by-depth : (depth : ℕ) → Ends (value_at s depth at) (FormedAt s at)
      by-depth zero = by (λ p. failed TooDeep p) (extent_at s zero at) (headed s at zero) (extent-inside s at zero)
      by-depth (suc depth) = by (λ p. value_at s depth p) (extent_at s (suc depth) at) (headed s at (suc depth)) (extent-inside s at (suc depth))

-- ---- offsets take no bytes
mutual
  unfolding relocate relocate_items relocate_entries pack pack_items pack_entries count count_entries

  pack-forget : (v : Value) → pack (forget v) ≡ pack v
  pack-forget null = refl
  pack-forget (boolean b) = refl
  pack-forget (integer z) = refl
  pack-forget (float bits) = refl
  pack-forget (bytes start v) = refl
  pack-forget (string start v) = refl
  pack-forget (list vs) = rw (count-forget vs, items-forget vs) refl
  pack-forget (dictionary es) = rw (count-entries-forget es, entries-forget es) refl
  pack-forget (structure tag vs) = rw (count-forget vs, items-forget vs) refl

  items-forget : (vs : Items) → pack_items (relocate_items (λ _. 0) vs) ≡ pack_items vs
  items-forget no_items = refl
  items-forget (item at v vs) = rw (pack-forget v, items-forget vs) refl

  entries-forget : (es : Entries) → pack_entries (relocate_entries (λ _. 0) es) ≡ pack_entries es
  entries-forget no-entries = refl
  entries-forget (entry at start key place v es) = rw (pack-forget v, entries-forget es) refl

  count-forget : (vs : Items) → count (relocate_items (λ _. 0) vs) ≡ count vs
  count-forget no_items = refl
  count-forget (item at v vs) = ap suc (count-forget vs)

  count-entries-forget : (es : Entries) → count_entries (relocate_entries (λ _. 0) es) ≡ count_entries es
  count-entries-forget no-entries = refl
  count-entries-forget (entry at start key place v es) = ap suc (count-entries-forget es)

same-pack : (v w : Value) → forget w ≡ forget v → pack w ≡ pack v
same-pack v w e = sym (pack-forget w) ∙ ap pack e ∙ pack-forget v

-- ---- the laws
pub shortest : (v : Value) → Shortest v
shortest v =
    record {
      message = λ l w bs e f. rw (same-pack v w f) at (decoded (λ w end. length (pack w) ≤ end) l w (λ short. least l bs) e);
      part = λ s depth at end w bs e f. rw (same-pack v w f) at (rw e at (value-least s bs depth at));
    }
  where
    least : (l : List ℕ) → Bytes l → Ends (value_at l most_open 0) (λ w end. length (pack w) ≤ end)
    least l bs = by (value_at l most_open 0) (value-least l bs most_open 0)
      where
        by : (x : Parse Value) → Ends x (Least 0) → Ends x (λ w end. length (pack w) ≤ end)
        by (parsed w end) h = omega arith
        by (failed why place) h = tt

pub integer-forms : (z : ℤ) (l : List ℕ) → IntegerForms z l
integer-forms z l =
    record {
      accepted = λ f. accepts f;
      listed = λ bs e. lists (decoded (FormedAt l 0) l (integer z) (λ short. value-formed l bs most_open 0) e);
    }
  where
    accepts : {l : List ℕ} → IntegerForm z l → decode l ≡ returned (integer z)
    accepts (itself t) =
        let l = bytes_of 1 (bits_of 1 z) in
        read_whole l (integer z) (omega (arith, length-bytes_of 1 (bits_of 1 z))) (read-tiny most_open z t (here-alone l))
    accepts (behind w v f) =
        let l = wide 0xC8 w (bits_of w z) in
        read_whole l (integer z) (omega (arith, length-wide 0xC8 w (bits_of w z), width-most w v)) (read_wide most_open z w v f (here-alone l))

    lists : Formed l 0 z (length l) → IntegerForm z l
    lists f = subst (IntegerForm z) (sym f.is ∙ take_all (length f.bytes) l (omega (arith, f.ends))) f.form

pub claim : Claim
claim = record { shortest = shortest; integer-forms = integer-forms }
