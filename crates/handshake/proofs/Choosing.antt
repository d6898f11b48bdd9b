-- The preamble byte by byte, and the choice proposal by proposal. Assumes nothing.
use mathlib.Core.Path.{◌≡◌, refl, ap}
use mathlib.Core.Bool.{Bool, cond, ◌&&◌}
use mathlib.Core.List.{List, [], ◌∷◌}
use Rattle.std.specs.Prelude.{Option, None, Some, min}
use Prim.Native.Nat.{ℕ, zero, suc, ◌+◌, ◌-◌, ◌*◌, ◌<◌}
use native.Mathlib.Omega.{arith}
use lib.Dec.{ltb, eqb}
use lib.ListN.{length, take, drop}
use lib.Seq.{take-nil, drop-drop}
use Rattle.std.specs.List.{starts_with}
use Rattle.slices.specs.Parts.{part}
use Rattle.refusal.specs.Answer.{Answer, refused, Placed}
use Rattle.refusal.proofs.Answer.{placed-cond}
use Rattle.handshake.specs.Version.{proposed}
use Rattle.handshake.specs.Negotiation.{preamble, agrees, or_else, chosen, negotiated}
use Rattle.handshake.specs.Places.{Claim}

-- the bytes of the preamble that are there begin it, or one of them is wrong
pub agrees-prefix : (p s : List ℕ) → starts_with eqb p (take (min (length s) (length p)) s) ≡ agrees p s
unfolding agrees
agrees-prefix [] s = let e : min (length s) 0 ≡ 0 = omega arith in rw e refl
agrees-prefix (a ∷ p) [] = rw (take-nil {A = ℕ} (min 0 (suc (length p)))) refl
agrees-prefix (a ∷ p) (b ∷ s) =
    let e : min (suc (length s)) (suc (length p)) ≡ suc (min (length s) (length p)) = omega arith in
    rw e (ap (λ (t : Bool). eqb b a && t) (agrees-prefix p s))

-- proposal k of four, and those after it
pub chosen-next : (s : List ℕ) (k : ℕ) → k < 4
    → chosen (4 - k) (drop (4 + 4 * k) s) ≡ or_else (proposed (part s (4 + 4 * k) 4)) (chosen (4 - (k + 1)) (drop (4 + 4 * (k + 1)) s))
unfolding chosen
chosen-next s k h =
    let e : 4 - k ≡ suc (4 - (k + 1)) = omega arith in
    let d : 4 + 4 * k + 4 ≡ 4 + 4 * (k + 1) = omega arith in
    rw (e, drop-drop, d) refl

-- ---- every refusal of the handshake is at place 0
or_else-placed : (p : Option ℕ) (a : Answer ℕ) → Placed a → Placed (or_else p a)
or_else-placed (Some minor) a h = tt
or_else-placed None a h = h

chosen-placed : (n : ℕ) (s : List ℕ) → Placed (chosen n s)
unfolding chosen
chosen-placed zero s = λ e. refl
chosen-placed (suc n) s = or_else-placed (proposed (take 4 s)) (chosen n (drop 4 s)) (chosen-placed n (drop 4 s))

pub negotiated-placed : Claim
unfolding negotiated
negotiated-placed s =
    placed-cond (agrees preamble s) (cond (ltb (length s) 20) (refused 1 0) (chosen 4 (drop 4 s))) (refused 2 0)
    (placed-cond (ltb (length s) 20) (refused 1 0) (chosen 4 (drop 4 s)) (λ e. refl) (chosen-placed 4 (drop 4 s))) (λ e. refl)
