-- The rule of places of the request reader: numbers that name no place may be changed in its answers, and nothing changes, so it gives none
-- of them; what the value reader refuses keeps the rule. Assumes nothing.
use mathlib.Core.Path.{◌≡◌, refl, sym, ap, ◌∙◌}
use mathlib.Core.Bool.{Bool, cond}
use Prim.Native.Nat.{ℕ, ◌+◌}
use native.Mathlib.Omega.{arith}
use Rattle.refusal.specs.Answer.{Answer, returned, refused, and_then, has_place, Placed}
use Rattle.values.specs.Decode.{decode}
use Rattle.values.proofs.Places.{places as values-places}
use Rattle.requests.specs.Checks.{complaints}
use Rattle.requests.specs.Requests.{request_in}
use Rattle.requests.specs.Renumbering.{renumbered}
use Rattle.requests.specs.Places.{Claim}
use Rattle.requests.proofs.Renumbering.{request-in}

-- every number that names no place is moved
moved : ℕ → ℕ
moved number = cond (has_place number) number (number + 1)

unmoved : {A : Type 0} (a : Answer A) → renumbered moved a ≡ a → Placed a
unfolding moved
unmoved (returned a) e = tt
unmoved (refused number place) e =
    λ h. let same : moved number ≡ number = cc e in
    let more : number + 1 ≡ number = sym (ap (λ (b : Bool). cond b number (number + 1)) h) ∙ same in
    absurd (omega arith)

and-then : {A B : Type 0} (a : Answer A) (f : A → Answer B) → Placed a → ((x : A) → Placed (f x)) → Placed (and_then a f)
and-then (returned a) f p h = h a
and-then (refused number place) f p h = p

pub places : Claim
unfolding moved
places minor s = and-then (decode s) (request_in complaints minor) (values-places.message s) (λ v. unmoved (request_in complaints minor v) (request-in moved complaints refl refl minor v))
