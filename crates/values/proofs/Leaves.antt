-- Laws of values that hold no other. Assumes nothing.
use mathlib.Core.Path.{◌≡◌, refl, ap}
use mathlib.Core.Bool.{Bool, true, false, cond}
use mathlib.Core.List.{List}
use Prim.Native.Nat.{ℕ, ◌+◌, ◌≤◌}
use borrow.Author.Tests.{eqb-true}
use lib.Dec.{eqb}
use lib.ListN.{length, get_or}
use Rattle.std.specs.Prelude.{Ok}
use Rattle.slices.specs.Parts.{part}
use Rattle.slices.proofs.Parts.{length_part}
use Rattle.numbers.specs.Access.{is_width, unsigned_at, signed_at}
use Rattle.numbers.specs.BigEndian.{big_endian}
use Rattle.numbers.specs.TwosComplement.{twos}
use Rattle.numbers.proofs.Access.{unsigned-number, signed-number}
use Rattle.refusal.specs.declared.Refusal.TheVariants.{InvalidUtf8}
use Rattle.markers.specs.Private.Sizes.{has_size}
use Rattle.values.specs.Decode.{parsed, failed, is_text, leaf_value, leaf_at}
use Rattle.values.specs.Reading.{head_of}
use Rattle.markers.specs.declared.kind.Leaf.{Leaf}
use Rattle.markers.specs.declared.kind.Leaf.TheVariants as L
use Rattle.values.specs.declared.head.Head.TheVariants as H

-- a read of bytes that are there finds a number
pub unsigned-there : (s : List ℕ) (at : ℕ) → at + 8 ≤ length s → Ok (big_endian (part s at 8)) ≡ unsigned_at s at 8
unsigned-there s at h = unsigned-number s at 8 (record { width = refl; inside = h })

pub signed-there : (s : List ℕ) (at k : ℕ) → at + k ≤ length s → is_width k ≡ true → Ok (twos k (big_endian (part s at k))) ≡ signed_at s at k
signed-there s at k h w = signed-number s at k (record { width = w; inside = h })

-- ---- heads, one for each kind
module _ (s : List ℕ) (k : Leaf) (p n : ℕ) where
  pub null-head : k ≡ L.Null → H.Null ≡ head_of (leaf_value s k p n) (p + n)
  unfolding head_of leaf_value
  null-head e = rw e

  pub boolean-head : k ≡ L.Boolean → H.Boolean (eqb (get_or s p 0) 0xC3) ≡ head_of (leaf_value s k p n) (p + n)
  unfolding head_of leaf_value
  boolean-head e = rw e

  pub integer-head : k ≡ L.Integer → H.Integer (twos n (big_endian (part s p n))) ≡ head_of (leaf_value s k p n) (p + n)
  unfolding head_of leaf_value
  integer-head e = rw e

  pub float-head : k ≡ L.Float → n ≡ 8 → H.Float (big_endian (part s p 8)) ≡ head_of (leaf_value s k p n) (p + n)
  unfolding head_of leaf_value
  float-head e f = rw (e, f)

  pub bytes-head : k ≡ L.Bytes → p + n ≤ length s → H.Bytes p n ≡ head_of (leaf_value s k p n) (p + n)
  unfolding head_of leaf_value
  bytes-head e h = rw (e, length_part s p n h)

  pub string-head : k ≡ L.String → p + n ≤ length s → H.String p n ≡ head_of (leaf_value s k p n) (p + n)
  unfolding head_of leaf_value
  string-head e h = rw (e, length_part s p n h)

  -- the sizes that their kinds have
  pub integer-size : k ≡ L.Integer → has_size k n ≡ true → is_width n ≡ true
  integer-size e h = rw e at h

  pub float_size : k ≡ L.Float → has_size k n ≡ true → n ≡ 8
  float_size e h = eqb-true n 8 (rw e at h)

  pub boolean-size : k ≡ L.Boolean → has_size k n ≡ true → n ≡ 1
  boolean-size e h = eqb-true n 1 (rw e at h)

-- ---- the text check
module _ (s : List ℕ) (at : ℕ) (k : Leaf) (p n : ℕ) where
  pub leaf-text : is_text k (part s p n) ≡ true → leaf_at s at k p n ≡ parsed (leaf_value s k p n) (p + n)
  unfolding leaf_at
  leaf-text e = ap (λ (t : Bool). cond t (parsed (leaf_value s k p n) (p + n)) (failed InvalidUtf8 at)) e

  pub leaf-no-text : is_text k (part s p n) ≡ false → leaf_at s at k p n ≡ failed InvalidUtf8 at
  unfolding leaf_at
  leaf-no-text e = ap (λ (t : Bool). cond t (parsed (leaf_value s k p n) (p + n)) (failed InvalidUtf8 at)) e
