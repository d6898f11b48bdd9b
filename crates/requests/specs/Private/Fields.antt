-- The fields of a request as they lie in a message that was read already. Assumes nothing.
use Rattle.std.specs.Prelude.{ℕ, List, ◌≡◌, ◌<◌, Result, Ok, Err}
use Rattle.refusal.specs.Answer.{Answer, refused, told_at}
use Rattle.refusal.specs.Numbers.{number_of}
use Rattle.refusal.specs.declared.Fault.{Fault}
use Rattle.markers.specs.Value.{Items, count}
use Rattle.values.specs.Private.Placement.{ItemsLie}
use Rattle.entries.specs.Numbering.{name_of}
use Rattle.entries.specs.Lookup.{Lookup}
use Rattle.entries.specs.View.{seen}
use Rattle.entries.specs.Walk.{entry_in}
use Rattle.requests.specs.Checks.{complaints}
use Rattle.requests.specs.Requests.{one, extra}
use Rattle.requests.specs.declared.request.Request.{Request}

-- so many values one after the other, the first at `at`, read with room for all but one open container
pub record Fields (s : List ℕ) (at n : ℕ) (vs : Items) : Type 0 where
  pub end : ℕ
  pub lie : ItemsLie s 15 at vs end
  pub count : n ≡ count vs

-- an answer to them: whatever they are, it is what they mean
abbrev pub Answers : List ℕ → ℕ → ℕ → (Items → Answer Request) → Result Request Fault → Type 0
Answers s at n meaning r = (vs : Items) → Fields s at n vs → told_at r ≡ meaning vs

-- what was noted of a Dictionary's entries is what stands under the known names
abbrev pub Sees : List ℕ → List ℕ → Lookup → Type 0
Sees s found e = (k : ℕ) → k < 12 → entry_in s found (name_of k) ≡ seen (e (name_of k))

-- whatever is asked of the extra of a request that has no other field, it is asked of these entries at `at`, or is refused so
abbrev pub ExtraIs : List ℕ → ℕ → Items → Result (List ℕ) Fault → Type 0
ExtraIs s at vs (Ok found) = (e : Lookup) × Sees s found e × ((f : ℕ → Lookup → Answer Request) → one (extra complaints f) vs ≡ f at e)
ExtraIs s at vs (Err fault) = (f : ℕ → Lookup → Answer Request) → one (extra complaints f) vs ≡ refused (number_of fault.refusal) fault.place

-- where the values in the extra stand, whatever the fields are
abbrev pub Finds : List ℕ → ℕ → ℕ → Result (List ℕ) Fault → Type 0
Finds s at n r = (vs : Items) → Fields s at n vs → ExtraIs s at vs r
