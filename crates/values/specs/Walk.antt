-- What is found in a message that was read already, with no look at text or at keys that repeat. Where a value can be read, its own head and
-- its own end are found (`Placement`). Assumes nothing.
use Rattle.std.specs.Prelude.{ℕ, zero, suc, ◌+◌, ◌*◌, cond, List, ltb, length, get_or, Option, Some, None, Result, Ok, Err, option_and_then}
use Rattle.markers.specs.Extents.{extent_at, most_open}
use Rattle.values.specs.Decode.{leaf_value}
use Rattle.values.specs.Reading.{head_of}
use Rattle.markers.specs.declared.kind.Container.TheVariants as C
use Rattle.markers.specs.declared.extent.Extent.TheVariants as E
use Rattle.markers.specs.declared.extent.Extent.{Extent}
use Rattle.refusal.specs.declared.Fault.{Fault}
use Rattle.values.specs.declared.head.Head.TheVariants as H
use Rattle.values.specs.declared.head.Head.{Head}

-- the head at an extent
unfoldable pub peek_of : List ℕ → Result Extent Fault → Option Head
peek_of s (Ok (E.Leaf k p n)) = Some (head_of (leaf_value s k p n) (p + n))
peek_of s (Ok (E.Container C.List p n)) = Some (H.List p n)
peek_of s (Ok (E.Container C.Dictionary p n)) = Some (H.Dictionary p n)
peek_of s (Ok (E.Container C.Structure p n)) = cond (ltb p (length s)) (Some (H.Structure (get_or s p 0) (p + 1) n)) None
peek_of s (Err fault) = None

-- the head at an offset
unfoldable pub peek_at : List ℕ → ℕ → Option Head
peek_at s at = peek_of s (extent_at s most_open at)

-- past n values from `at` on, each passed by f
unfoldable pub past : (ℕ → Option ℕ) → ℕ → ℕ → Option ℕ
past f zero at = Some at
past f (suc n) at = option_and_then (λ end. past f n end) (f at)

-- past the value at an extent; an entry is two values
abbrev pub skip_of : List ℕ → (ℕ → Option ℕ) → Result Extent Fault → Option ℕ
skip_of s f (Ok (E.Leaf k p n)) = Some (p + n)
skip_of s f (Ok (E.Container C.List p n)) = past f n p
skip_of s f (Ok (E.Container C.Dictionary p n)) = past f (2 * n) p
skip_of s f (Ok (E.Container C.Structure p n)) = cond (ltb p (length s)) (past f n (p + 1)) None
skip_of s f (Err fault) = None

-- with room for so many open containers
unfoldable pub skip_within : List ℕ → ℕ → ℕ → Option ℕ
skip_within s zero at = skip_of s (λ p. None) (extent_at s zero at)
skip_within s (suc depth) at = skip_of s (λ p. skip_within s depth p) (extent_at s (suc depth) at)

-- the offset past the value at an offset
abbrev pub skip_at : List ℕ → ℕ → Option ℕ
skip_at s at = skip_within s most_open at
