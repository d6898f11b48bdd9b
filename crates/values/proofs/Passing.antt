-- Laws of the walk: heads from extents, and steps past values. Assumes nothing.
use mathlib.Core.Path.{◌≡◌, sym, ap, ◌∙◌}
use mathlib.Core.Bool.{cond}
use mathlib.Core.List.{List}
use Prim.Native.Nat.{ℕ, zero, suc, ◌+◌, ◌-◌, ◌≤◌, ◌<◌}
use native.Mathlib.Omega.{arith}
use borrow.Author.Tests.{lt-ltb, le-ltb}
use lib.Dec.{ltb}
use lib.ListN.{length, get_or}
use Rattle.std.specs.Prelude.{Result, Ok, Err, Option, Some, None, option_and_then}
use Rattle.std.specs.Result.{result_ok}
use Rattle.refusal.specs.declared.Fault.{Fault}
use Rattle.markers.specs.Extents.{extent_at, most_open}
use Rattle.values.specs.Decode.{leaf_value}
use Rattle.values.specs.Reading.{head_of}
use Rattle.values.specs.Walk.{peek_of, peek_at, past, skip_of, skip_within}
use Rattle.markers.specs.declared.kind.Leaf.{Leaf}
use Rattle.markers.specs.declared.kind.Container.{Container}
use Rattle.markers.specs.declared.kind.Container.TheVariants as C
use Rattle.markers.specs.declared.extent.Extent.{Extent}
use Rattle.markers.specs.declared.extent.Extent.TheVariants as E
use Rattle.values.specs.declared.head.Head.TheVariants as H
use Rattle.markers.proofs.Extents.{room_for}

-- ---- what `ok` leaves of an extent
pub ok-some : (r q : Result Extent Fault) (x : Extent) → Some x ≡ result_ok r → r ≡ q → Ok x ≡ q
ok-some (Ok y) q x e f = let g : x ≡ y = cc e in ap (λ (z : Extent). Ok z) g ∙ f
ok-some (Err fault) q x e f = cc e

pub ok-none : (r q : Result Extent Fault) → None ≡ result_ok r → r ≡ q → (fault : Fault) × (Err fault ≡ q)
ok-none (Ok y) q e f = cc e
ok-none (Err fault) q e f = (fault, f)

-- ---- heads
module _ (s : List ℕ) (at : ℕ) where
  pub peek-by : (x : Result Extent Fault) → x ≡ extent_at s most_open at → peek_of s x ≡ peek_at s at
  unfolding peek_at
  peek-by x e = ap (peek_of s) e

  module _ (k : Container) (p n : ℕ) (e : Ok (E.Container k p n) ≡ extent_at s most_open at) where
    peek-as : (j : Container) → k ≡ j → peek_of s (Ok (E.Container j p n)) ≡ peek_at s at
    peek-as j f = ap (λ (i : Container). peek_of s (Ok (E.Container i p n))) (sym f) ∙ peek-by (Ok (E.Container k p n)) e

    pub peek-list : k ≡ C.List → Some (H.List p n) ≡ peek_at s at
    unfolding peek_of
    peek-list f = peek-as C.List f

    pub peek-dictionary : k ≡ C.Dictionary → Some (H.Dictionary p n) ≡ peek_at s at
    unfolding peek_of
    peek-dictionary f = peek-as C.Dictionary f

    peek-structure : k ≡ C.Structure → cond (ltb p (length s)) (Some (H.Structure (get_or s p 0) (p + 1) n)) None ≡ peek_at s at
    unfolding peek_of
    peek-structure f = peek-as C.Structure f

    pub peek-no-tag : k ≡ C.Structure → length s ≤ p → None ≡ peek_at s at
    peek-no-tag f h = rw (le-ltb p (length s) h) at (peek-structure f)

    pub peek-tag : k ≡ C.Structure → p < length s → Some (H.Structure (get_or s p 0) (p + 1) n) ≡ peek_at s at
    peek-tag f h = rw (lt-ltb p (length s) h) at (peek-structure f)

  pub peek-leaf : (k : Leaf) (p n : ℕ) → Ok (E.Leaf k p n) ≡ extent_at s most_open at → Some (head_of (leaf_value s k p n) (p + n)) ≡ peek_at s at
  unfolding peek_of
  peek-leaf k p n e = peek-by (Ok (E.Leaf k p n)) e

  pub peek-nothing : (fault : Fault) → Err fault ≡ extent_at s most_open at → None ≡ peek_at s at
  unfolding peek_of
  peek-nothing fault e = peek-by (Err fault) e

-- ---- past one value
module _ (s : List ℕ) (depth at : ℕ) where
  pub skip-leaf : (k : Leaf) (p n : ℕ) → Ok (E.Leaf k p n) ≡ extent_at s depth at → Some (p + n) ≡ skip_within s depth at
  unfolding skip_within
  skip-leaf k p n e = by depth e
    where
      by : (d : ℕ) → Ok (E.Leaf k p n) ≡ extent_at s d at → Some (p + n) ≡ skip_within s d at
      by zero e = ap (skip_of s (λ p. None)) e
      by (suc d) e = ap (skip_of s (λ p. skip_within s d p)) e

  pub skip-nothing : (fault : Fault) → Err fault ≡ extent_at s depth at → None ≡ skip_within s depth at
  unfolding skip_within
  skip-nothing fault e = by depth e
    where
      by : (d : ℕ) → Err fault ≡ extent_at s d at → None ≡ skip_within s d at
      by zero e = ap (skip_of s (λ p. None)) e
      by (suc d) e = ap (skip_of s (λ p. skip_within s d p)) e

  module _ (k : Container) (p n : ℕ) (e : Ok (E.Container k p n) ≡ extent_at s depth at) where
    pub skip-as : (j : Container) → k ≡ j → skip_of s (skip_within s (depth - 1)) (Ok (E.Container j p n)) ≡ skip_within s depth at
    unfolding skip_within
    skip-as j f =
        ap (λ (i : Container). skip_of s (skip_within s (depth - 1)) (Ok (E.Container i p n))) (sym f) ∙ by depth e (room_for s depth at k p n e)
      where
        by : (d : ℕ) → Ok (E.Container k p n) ≡ extent_at s d at → 1 ≤ d → skip_of s (skip_within s (d - 1)) (Ok (E.Container k p n)) ≡ skip_within s d at
        by zero e l = absurd (omega arith)
        by (suc d) e l =
            let m : suc d - 1 ≡ d = omega arith in
            ap (λ (c : ℕ). skip_of s (skip_within s c) (Ok (E.Container k p n))) m ∙ ap (skip_of s (λ p. skip_within s d p)) e

    pub skip-no-tag : k ≡ C.Structure → length s ≤ p → None ≡ skip_within s depth at
    skip-no-tag f h = rw (le-ltb p (length s) h) at (skip-as C.Structure f)

    pub skip-fields : k ≡ C.Structure → p < length s → past (skip_within s (depth - 1)) n (p + 1) ≡ skip_within s depth at
    skip-fields f h = rw (lt-ltb p (length s) h) at (skip-as C.Structure f)

-- ---- past several: of n values i are passed
abbrev pub PastLeft : (ℕ → Option ℕ) → ℕ → ℕ → ℕ → ℕ → Type 0
PastLeft f n start i p = past f n start ≡ past f (n - i) p

module _ (f : ℕ → Option ℕ) (n start : ℕ) where
  pub past-none : PastLeft f n start 0 start
  past-none = let z : n - 0 ≡ n = omega arith in rw z

  module _ (i p : ℕ) (so_far : PastLeft f n start i p) where
    pub past-done : n ≤ i → Some p ≡ past f n start
    unfolding past
    past-done h = let z : n - i ≡ 0 = omega arith in sym (so_far ∙ rw z)

    module _ (h : i < n) where
      pub past_next : (q : ℕ) → Some q ≡ f p → PastLeft f n start (i + 1) q
      unfolding past
      past_next q e =
          let m : n - i ≡ suc (n - (i + 1)) = omega arith in
          so_far ∙ rw m (ap (option_and_then (λ end. past f (n - (i + 1)) end)) (sym e))

      pub past_stop : None ≡ f p → None ≡ past f n start
      unfolding past
      past_stop e =
          let m : n - i ≡ suc (n - (i + 1)) = omega arith in
          sym (so_far ∙ rw m (ap (option_and_then (λ end. past f (n - (i + 1)) end)) (sym e)))
