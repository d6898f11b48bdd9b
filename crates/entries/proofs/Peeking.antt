-- Laws of peeking: which String is found, and that it lies inside the message. Assumes nothing.
use mathlib.Core.Path.{◌≡◌, refl, sym, ap, ◌∙◌, subst}
use mathlib.Core.Bool.{Bool, true, false, cond}
use mathlib.Core.List.{List}
use Prim.Native.Nat.{ℕ, ◌+◌, ◌≤◌, ◌<◌}
use lib.Dec.{ltb}
use lib.ListN.{length, get_or}
use Rattle.slices.proofs.Parts.{length_part}
use Rattle.values.specs.Decode.{leaf_value}
use Rattle.markers.specs.Extents.{extent_at, most_open}
use Rattle.markers.specs.Marker.{is_string}
use Rattle.values.specs.Reading.{head_of}
use Rattle.values.specs.Walk.{peek_of, peek_at}
use Rattle.markers.specs.declared.kind.Leaf.{Leaf}
use Rattle.markers.specs.declared.kind.Leaf.TheVariants as L
use Rattle.markers.specs.declared.kind.Container.TheVariants as C
use Rattle.markers.specs.declared.extent.Extent.{Extent}
use Rattle.markers.specs.declared.extent.Extent.TheVariants as E
use Rattle.values.specs.declared.head.Head.TheVariants as H
use Rattle.markers.proofs.Extents.{Inside, extent-inside}
use denote.Enum.Bare.{sameb}
use Rattle.std.specs.Prelude.{Option, Some, None, Result, Ok, Err}
use Rattle.std.specs.Result.{result_ok}
use Rattle.markers.specs.contracts.kind.Leaf.{the_type}
use Rattle.markers.specs.declared.kind.Container.{Container}
use Rattle.refusal.specs.declared.Fault.{Fault}
use Rattle.markers.specs.Extents.{span}
use Rattle.markers.specs.declared.extent.Span.{Span}
use Rattle.entries.specs.Walk.{string_found}

-- the String whose content lies at an extent, if one's does
abbrev pub text_of : Result Extent Fault → Option Span
text_of (Ok (E.Leaf k p n)) = cond (is_string k) (Some (span p n)) None
text_of (Ok (E.Container k p n)) = None
text_of (Err fault) = None

text-leaf : (s : List ℕ) (k : Leaf) (p n : ℕ) → p + n ≤ length s → text_of (Ok (E.Leaf k p n)) ≡ string_found (peek_of s (Ok (E.Leaf k p n)))
unfolding peek_of head_of leaf_value
text-leaf s L.Null p n h = refl
text-leaf s L.Boolean p n h = refl
text-leaf s L.Integer p n h = refl
text-leaf s L.Float p n h = refl
text-leaf s L.Bytes p n h = refl
text-leaf s L.String p n h = rw (length_part s p n h)

text-found : (s : List ℕ) (at : ℕ) (x : Result Extent Fault) → Inside s at x → text_of x ≡ string_found (peek_of s x)
unfolding peek_of
text-found s at (Ok (E.Leaf k p n)) i = text-leaf s k p n i.inside
text-found s at (Ok (E.Container C.List p n)) i = refl
text-found s at (Ok (E.Container C.Dictionary p n)) i = refl
text-found s at (Ok (E.Container C.Structure p n)) i = by (ltb p (length s))
  where
    by : (b : Bool) → None ≡ string_found (cond b (Some (H.Structure (get_or s p 0) (p + 1) n)) None)
    by true = refl
    by false = refl
text-found s at (Err fault) i = refl

-- so the extent alone tells what peeking at its head would
pub text_at : (s : List ℕ) (at : ℕ) (x : Result Extent Fault) → x ≡ extent_at s most_open at → text_of x ≡ string_found (peek_at s at)
unfolding peek_at
text_at s at x e = ap text_of e ∙ text-found s at (extent_at s most_open at) (extent-inside s at most_open)

-- the kind of a String, as the code tests it
string-kind : (k : Leaf) → sameb the_type k L.String ≡ is_string k
string-kind L.Null = refl
string-kind L.Boolean = refl
string-kind L.Integer = refl
string-kind L.Float = refl
string-kind L.Bytes = refl
string-kind L.String = refl

-- what the code makes of an extent r
module _ (s : List ℕ) (at : ℕ) (r : Result Extent Fault) (e : r ≡ extent_at s most_open at) where
  there : (q : Result Extent Fault) → q ≡ r → (x : Extent) → Some x ≡ result_ok q → text_of (Ok x) ≡ string_found (peek_at s at)
  there (Ok y) f x g = let h : x ≡ y = cc g in rw h (text_at s at (Ok y) (f ∙ e))
  there (Err fault) f x g = cc g

  pub none-there : None ≡ result_ok r → None ≡ string_found (peek_at s at)
  none-there = by r refl
    where
      by : (q : Result Extent Fault) → q ≡ r → None ≡ result_ok q → None ≡ string_found (peek_at s at)
      by (Ok y) f g = cc g
      by (Err fault) f g = text_at s at (Err fault) (f ∙ e)

  module _ (x : Extent) (f : Some x ≡ result_ok r) where
    pub leaf-text : (k : Leaf) (p n : ℕ) → x ≡ E.Leaf k p n → (b : Bool) → b ≡ sameb the_type k L.String → cond b (Some (span p n)) None ≡ string_found (peek_at s at)
    leaf-text k p n g b h =
        ap (λ (t : Bool). cond t (Some (span p n)) None) (h ∙ string-kind k) ∙ ap (λ (y : Extent). text_of (Ok y)) (sym g) ∙ there r refl x f

    pub other-text : (k : Container) (p n : ℕ) → x ≡ E.Container k p n → None ≡ string_found (peek_at s at)
    other-text k p n g = ap (λ (y : Extent). text_of (Ok y)) (sym g) ∙ there r refl x f

-- the content of a String that is found ends past its marker and inside the message
pub record Within (s : List ℕ) (at : ℕ) (c : Span) : Type 0 where
  pub past : at < c.start + c.size
  pub inside : c.start + c.size ≤ length s

abbrev TextWithin : List ℕ → ℕ → Option Span → Type 0
TextWithin s at None = Unit {0}
TextWithin s at (Some c) = Within s at c

text-within : (s : List ℕ) (at : ℕ) (x : Result Extent Fault) → Inside s at x → TextWithin s at (text_of x)
text-within s at (Ok (E.Leaf k p n)) i = by (is_string k)
  where
    by : (b : Bool) → TextWithin s at (cond b (Some (span p n)) None)
    by true = record { past = i.past; inside = i.inside }
    by false = tt
text-within s at (Ok (E.Container k p n)) i = tt
text-within s at (Err fault) i = tt

pub string-within : (s : List ℕ) (at : ℕ) (c : Span) → Some c ≡ string_found (peek_at s at) → Within s at c
string-within s at c e =
    subst (TextWithin s at) (text_at s at (extent_at s most_open at) refl ∙ sym e) (text-within s at (extent_at s most_open at) (extent-inside s at most_open))
