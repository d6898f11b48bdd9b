-- A known name's entry, by its number. Assumes nothing.
use mathlib.Core.Path.{◌≡◌, refl, sym, ap}
use mathlib.Core.Bool.{Bool, true, false, cond}
use mathlib.Core.List.{List}
use Prim.Native.Nat.{ℕ, ◌<◌}
use lib.ListN.{get_or}
use Rattle.std.specs.Prelude.{Option, None}
use Rattle.entries.specs.Numbering.{name_of}
use Rattle.entries.specs.Walk.{entry_at, entry_in}
use Rattle.entries.specs.declared.view.Entry.{Entry}
use Rattle.entries.proofs.Naming.{index-of-name}

-- the entry under the k-th name stands where it was noted
pub entry-is : (s found : List ℕ) (k : ℕ) → k < 12 → entry_at s (get_or found k 0) ≡ entry_in s found (name_of k)
entry-is s found k h = ap (λ (j : ℕ). entry_at s (get_or found j 0)) (sym (index-of-name k h))

-- a name that is not known yet has no entry
pub entry-since : (s : List ℕ) (b : Bool) (place : ℕ) (e : Option Entry) → entry_at s place ≡ e → entry_at s (cond b place 0) ≡ cond b e None
entry-since s true place e f = f
entry-since s false place e f = refl
