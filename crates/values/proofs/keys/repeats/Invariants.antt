-- `values::keys::repeats` meets its contract: the keys that are left decide, and of the key looked at the bytes so far are equal.
-- Assumes nothing.
use Rattle.std.proofs.Common.{◌≡◌, ℕ, ◌+◌, ◌<◌, false, get_or}
use Rattle.values.proofs.KeySearch.{Searching}
use Rattle.values.proofs.keys.repeats.Given as goal

abbrev pub invariant-loop-k : goal.invariant-loop-k
invariant-loop-k l = (j : ℕ) → j < l.k → get_or l.message (l.start + j) 0 ≡ get_or l.content j 0

abbrev pub invariant-search : goal.invariant-search
invariant-search l = (l.found ≡ false) × Searching l.message l.keys l.content l.i
