-- Laws of keys: of the search for an equal one, and of the reading of one. Assumes nothing.
use mathlib.Core.Path.{◌≡◌, refl, sym, ap, ◌∙◌, subst}
use mathlib.Core.Bool.{Bool, true, false, cond, ◌||◌}
use mathlib.Core.List.{List, [], ◌∷◌}
use Prim.Native.Nat.{ℕ, suc, ◌+◌, ◌-◌, ◌≤◌, ◌<◌}
use native.Mathlib.Omega.{arith}
use borrow.Author.Tests.{eq-eqb}
use lib.ListN.{length, get_or, take}
use Rattle.std.specs.Prelude.{Result, Ok, Err, map, ◌++◌}
use Rattle.std.proofs.lemmas.List.Elements.{All-get_or}
use Rattle.std.proofs.lemmas.List.{take_more, reverse-append}
use Rattle.slices.specs.Parts.{part}
use Rattle.slices.proofs.Parts.{length_part, part-cons, get_d_part}
use Rattle.utf8.specs.Utf8.{utf8}
use Rattle.refusal.specs.Answer.{placed}
use Rattle.refusal.specs.declared.Fault.{Fault}
use Rattle.refusal.specs.declared.Refusal.{Refusal}
use Rattle.refusal.specs.declared.Refusal.TheVariants.{InvalidUtf8, DuplicateKey}
use Rattle.values.specs.Decode.{Parse, parsed, failed, KeyText, repeats, key_of, key_at}
use Rattle.slices.specs.Equality.{same}
use Rattle.slices.proofs.Equality.{same_length, same_at}
use Rattle.markers.specs.Extents.{span, key_extent_at}
use Rattle.values.specs.Private.Keys.{key_of_parse, content_of, keys_of, KeysInside}
use Rattle.values.specs.declared.keys.Key.{Key}
use Rattle.markers.specs.declared.kind.Leaf.TheVariants as L
use Rattle.markers.specs.declared.extent.Span.{Span}
use Rattle.markers.proofs.Extents.{SpanInside, key-inside}

-- bytes of another size are others, and so are those that differ at one place
other-size : (s content : List ℕ) (start size : ℕ) → start + size ≤ length s → (size ≡ length content → ⊥) → same (part s start size) content ≡ false
other-size s content start size h e = same_length (part s start size) content (λ f. e (sym (length_part s start size h) ∙ f))

other-byte : (s content : List ℕ) (start size k : ℕ) → k < size → (get_or s (start + k) 0 ≡ get_or content k 0 → ⊥) → same (part s start size) content ≡ false
other-byte s content start size k h e = same_at (part s start size) content k (λ f. e (sym (get_d_part s start size k h) ∙ f))

-- parts of one size whose last elements differ
pub last-differs : (s : List ℕ) (a : ℕ) (t : List ℕ) (b n : ℕ) → 0 < n → (get_or s (a + (n - 1)) 0 ≡ get_or t (b + (n - 1)) 0 → ⊥) → same (part s a n) (part t b n) ≡ false
last-differs s a t b n h d =
    same_at (part s a n) (part t b n) (n - 1) (λ e. d (sym (get_d_part s a n (n - 1) (omega arith)) ∙ e ∙ get_d_part t b n (n - 1) (omega arith)))

-- bytes of one size that are equal at each place
equal-bytes : (s content : List ℕ) (start size : ℕ) → start + size ≤ length s → size ≡ length content
    → ((k : ℕ) → k < size → get_or s (start + k) 0 ≡ get_or content k 0) → same (part s start size) content ≡ true
unfolding same
equal-bytes s [] start size h e each = rw e
equal-bytes s (y ∷ b) start size h e each =
    let z : start + 0 ≡ start = omega arith in
    let first : get_or s start 0 ≡ y = rw z at (each 0 (omega arith)) in
    let rest = equal-bytes s b (start + 1) (length b) (omega arith) refl
    (λ k l. let f : start + suc k ≡ start + 1 + k = omega arith in rw f at (each (suc k) (omega arith))) in
    rw (e, part-cons s start (length b) (omega arith), eq-eqb (get_or s start 0) y first, rest)

-- ---- keys that are kept, the latest first
module _ (s : List ℕ) where
  pub keys-push : (ks : List Key) (k : Key) → keys_of s (ks ++ k ∷ []) ≡ content_of s k ∷ keys_of s ks
  keys-push ks k = ap (map (content_of s)) (reverse-append ks (k ∷ []))

  -- the search from the latest back: the keys before the last i decide
  abbrev pub Searching : List Key → List ℕ → ℕ → Type 0
  Searching keys content i = repeats content (keys_of s keys) ≡ repeats content (keys_of s (take i keys))

  module _ (keys : List Key) (content : List ℕ) where
    pub none_left : (i : ℕ) → i ≤ 0 → Searching keys content i → false ≡ repeats content (keys_of s keys)
    unfolding repeats
    none_left i h e = let z : i ≡ 0 = omega arith in sym (rw z at e)

    -- the key looked at: the last of them
    module _ (i : ℕ) (d : Key) (h : 0 < i) (l : i ≤ length keys) (so_far : Searching keys content i) (inside : KeysInside s keys)
        (start size : ℕ) (e : start ≡ (get_or keys (i - 1) d).start) (f : size ≡ (get_or keys (i - 1) d).size) where
      key_inside : start + size ≤ length s
      key_inside = rw (e, f) (All-get_or (λ k. k.start + k.size ≤ length s) keys (i - 1) d (omega arith) inside)

      one_left : repeats content (keys_of s keys) ≡ (same (part s start size) content || repeats content (keys_of s (take (i - 1) keys)))
      unfolding repeats
      one_left =
          let back : i - 1 + 1 ≡ i = omega arith in
          let more : take i keys ≡ take (i - 1) keys ++ get_or keys (i - 1) d ∷ [] = rw back at (take_more keys (i - 1) d (omega arith)) in
          let read : content_of s (get_or keys (i - 1) d) ≡ part s start size = rw (e, f) in
          so_far ∙ ap (λ (ks : List Key). repeats content (keys_of s ks)) more
          ∙ ap (repeats content) (keys-push (take (i - 1) keys) (get_or keys (i - 1) d) ∙ ap (λ (c : List ℕ). c ∷ keys_of s (take (i - 1) keys)) read)

      tells : (t : Bool) → same (part s start size) content ≡ t → repeats content (keys_of s keys) ≡ (t || repeats content (keys_of s (take (i - 1) keys)))
      tells t g = one_left ∙ ap (λ (u : Bool). u || repeats content (keys_of s (take (i - 1) keys))) g

      pub key_of_other_size : (size ≡ length content → ⊥) → Searching keys content (i - 1)
      key_of_other_size g = tells false (other-size s content start size key_inside g)

      pub key_of_other_byte : (k : ℕ) → k < size → (get_or s (start + k) 0 ≡ get_or content k 0 → ⊥) → Searching keys content (i - 1)
      key_of_other_byte k m g = tells false (other-byte s content start size k m g)

      pub equal-key : size ≡ length content → ((k : ℕ) → k < size → get_or s (start + k) 0 ≡ get_or content k 0) → true ≡ repeats content (keys_of s keys)
      equal-key g each = sym (tells true (equal-bytes s content start size key_inside g each))

-- ---- the key at an offset, from its extent
module _ (s : List ℕ) (seen : List (List ℕ)) (at : ℕ) where
  pub key-by : (x : Result Span Fault) → x ≡ key_extent_at s at → key_of s seen at x ≡ key_at s seen at
  unfolding key_at
  key-by x e = ap (key_of s seen at) e

  pub key-stopped : (fault : Fault) → Err fault ≡ key_extent_at s at → Err fault ≡ key_of_parse (key_at s seen at)
  key-stopped fault e = ap key_of_parse (key-by (Err fault) e)

  module _ (k : Span) (e : Ok k ≡ key_extent_at s at) where
    pub key-lies : k.start + k.size ≤ length s
    key-lies = (subst (SpanInside s at L.String) (sym e) (key-inside s at)).inside

    by-span : key_at s seen at ≡ key_of s seen at (Ok k)
    by-span = sym (key-by (Ok k) e)

    pub key-no-text : utf8 (part s k.start k.size) ≡ false → Err (placed InvalidUtf8 at) ≡ key_of_parse (key_at s seen at)
    key-no-text f = rw (by-span, f)

    pub key-repeated : utf8 (part s k.start k.size) ≡ true → repeats (part s k.start k.size) seen ≡ true
        → Err (placed DuplicateKey at) ≡ key_of_parse (key_at s seen at)
    key-repeated f g = rw (by-span, f, g)

    pub key-new : utf8 (part s k.start k.size) ≡ true → repeats (part s k.start k.size) seen ≡ false
        → Ok (span k.start k.size) ≡ key_of_parse (key_at s seen at)
    key-new f g = rw (by-span, f, g, length_part s k.start k.size key-lies)

    -- a new key is read
    pub key-is : utf8 (part s k.start k.size) ≡ true → repeats (part s k.start k.size) seen ≡ false
        → key_at s seen at ≡ parsed (record { start = k.start; content = part s k.start k.size }) (k.start + k.size)
    key-is f g = rw (by-span, f, g)

-- what the reading of a key tells
pub data KeyTells (s : List ℕ) (seen : List (List ℕ)) (at : ℕ) : Parse KeyText → Type 0 where
  new : (k : Span) → Ok k ≡ key_extent_at s at → utf8 (part s k.start k.size) ≡ true → repeats (part s k.start k.size) seen ≡ false
      → KeyTells s seen at (parsed (record { start = k.start; content = part s k.start k.size }) (k.start + k.size))
  none : (why : Refusal) (place : ℕ) → KeyTells s seen at (failed why place)

pub key-tells : (s : List ℕ) (seen : List (List ℕ)) (at : ℕ) → KeyTells s seen at (key_at s seen at)
unfolding key_at
key-tells s seen at = by (key_extent_at s at) refl
  where
    by : (x : Result Span Fault) → x ≡ key_extent_at s at → KeyTells s seen at (key_of s seen at x)
    by (Ok k) e = by_tests (utf8 (part s k.start k.size)) (repeats (part s k.start k.size) seen) refl refl
      where
        by_tests : (t u : Bool) → utf8 (part s k.start k.size) ≡ t → repeats (part s k.start k.size) seen ≡ u
            → KeyTells s seen at (cond t (cond u (failed DuplicateKey at) (parsed (record { start = k.start; content = part s k.start k.size }) (k.start + k.size))) (failed InvalidUtf8 at))
        by_tests true false f g = new k e f g
        by_tests true true f g = none DuplicateKey at
        by_tests false u f g = none InvalidUtf8 at
    by (Err fault) e = none fault.refusal fault.place

-- a key that was read: its content lies past its marker and inside the message
pub record KeyRead (s : List ℕ) (seen : List (List ℕ)) (at : ℕ) (k : Span) : Type 0 where
  pub parse : key_at s seen at ≡ parsed (record { start = k.start; content = part s k.start k.size }) (k.start + k.size)
  pub past : at < k.start + k.size
  pub inside : k.start + k.size ≤ length s

pub key-read : (s : List ℕ) (seen : List (List ℕ)) (at : ℕ) (k : Span) → Ok k ≡ key_of_parse (key_at s seen at) → KeyRead s seen at k
key-read s seen at k e = by (key-tells s seen at) refl e
  where
    by : {g : Parse KeyText} → KeyTells s seen at g → key_at s seen at ≡ g → Ok k ≡ key_of_parse g → KeyRead s seen at k
    by (new j x f h) g e =
        let i = subst (SpanInside s at L.String) (sym x) (key-inside s at) in
        let a : k ≡ span j.start (length (part s j.start j.size)) = cc e in
        let b : k ≡ j = a ∙ ap (span j.start) (length_part s j.start j.size i.inside) in
        subst (KeyRead s seen at) (sym b) (record { parse = g; past = i.past; inside = i.inside })
    by (none why place) g e = cc e

pub key-refused : (s : List ℕ) (seen : List (List ℕ)) (at : ℕ) (fault : Fault) → Err fault ≡ key_of_parse (key_at s seen at)
    → key_at s seen at ≡ failed fault.refusal fault.place
key-refused s seen at fault e = by (key_at s seen at) refl e
  where
    by : (g : Parse KeyText) → key_at s seen at ≡ g → Err fault ≡ key_of_parse g → key_at s seen at ≡ failed fault.refusal fault.place
    by (parsed k end) g e = cc e
    by (failed w q) g e = let f : fault ≡ placed w q = cc e in g ∙ rw f
