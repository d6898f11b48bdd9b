-- What is echoed is the first proposal that is known: the theorem `echo`. Assumes nothing.
use mathlib.Core.Path.{◌≡◌, refl, sym, ap, ◌∙◌}
use mathlib.Core.Bool.{Bool, true, false, cond, ◌||◌}
use mathlib.Core.List.{List, [], ◌∷◌}
use Rattle.std.specs.Prelude.{None, Some}
use Prim.Native.Nat.{ℕ, ◌+◌, ◌-◌, ◌*◌, ◌<◌}
use native.Mathlib.Omega.{arith}
use lib.Dec.{ltb}
use lib.ListN.{length, drop}
use Rattle.slices.specs.Parts.{part}
use Rattle.slices.specs.Equality.{same}
use Rattle.slices.proofs.Equality.{same-equal}
use Rattle.refusal.specs.Answer.{Answer, returned, refused}
use Rattle.handshake.specs.Version.{bytes_of, among, proposed}
use Rattle.handshake.specs.Negotiation.{preamble, agrees, or_else, chosen, negotiated}
use Rattle.handshake.specs.Echo.{first_known, Claim}
use Rattle.handshake.proofs.Choosing.{chosen-next}

clash : ◌≡◌ {A = ℕ} 0 1 → ⊥
clash z = omega arith

-- a refusal is no result
no_result : {number place minor : ℕ} → refused number place ≡ returned minor → ⊥
no_result e = clash (cc)

module _ (minor : ℕ) where
  -- a proposal that is known is the one echoed, else the first of those after it is
  echo-one : (p : List ℕ) (ps : List (List ℕ)) (later : Answer ℕ) → (later ≡ returned minor → first_known ps ≡ Some (bytes_of minor)) → or_else (proposed p) later ≡ returned minor
      → first_known (p ∷ ps) ≡ Some (bytes_of minor)
  unfolding among
  echo-one p ps later rest e = by (same p (bytes_of 0)) (same p (bytes_of 1)) (same p (bytes_of 2)) (same-equal p (bytes_of 0)) (same-equal p (bytes_of 1)) (same-equal p (bytes_of 2)) e
    where
      -- a proposal with the bytes of a version that is agreed on
      same_bytes : (n : ℕ) → p ≡ bytes_of n → returned n ≡ returned minor → Some p ≡ Some (bytes_of minor)
      same_bytes n q h = let m : n ≡ minor = cc in ap Some (q ∙ ap bytes_of m)

      by : (a b c : Bool) → (a ≡ true → p ≡ bytes_of 0) → (b ≡ true → p ≡ bytes_of 1) → (c ≡ true → p ≡ bytes_of 2)
          → or_else (cond a (Some 0) (cond b (Some 1) (cond c (Some 2) None))) later ≡ returned minor → cond (a || (b || c)) (Some p) (first_known ps) ≡ Some (bytes_of minor)
      by true b c f g h e = same_bytes 0 (f refl) e
      by false true c f g h e = same_bytes 1 (g refl) e
      by false false true f g h e = same_bytes 2 (h refl) e
      by false false false f g h e = rest e

  -- proposal k of four
  echo-next : (s : List ℕ) (k : ℕ) (ps : List (List ℕ)) → k < 4 → (chosen (4 - (k + 1)) (drop (4 + 4 * (k + 1)) s) ≡ returned minor → first_known ps ≡ Some (bytes_of minor))
      → chosen (4 - k) (drop (4 + 4 * k) s) ≡ returned minor → first_known (part s (4 + 4 * k) 4 ∷ ps) ≡ Some (bytes_of minor)
  echo-next s k ps h rest e = echo-one (part s (4 + 4 * k) 4) ps (chosen (4 - (k + 1)) (drop (4 + 4 * (k + 1)) s)) rest (sym (chosen-next s k h) ∙ e)

  no_more : (s : List ℕ) → chosen 0 s ≡ returned minor → first_known [] ≡ Some (bytes_of minor)
  unfolding chosen
  no_more s e = absurd (no_result e)

  -- whole handshakes have a choice
  choice : (s : List ℕ) → negotiated s ≡ returned minor → chosen 4 (drop 4 s) ≡ returned minor
  unfolding negotiated
  choice s e = by (agrees preamble s) (ltb (length s) 20) e
    where
      by : (a b : Bool) → cond a (cond b (refused 1 0) (chosen 4 (drop 4 s))) (refused 2 0) ≡ returned minor → chosen 4 (drop 4 s) ≡ returned minor
      by true true e = absurd (no_result e)
      by true false e = e
      by false b e = absurd (no_result e)

pub echo : Claim
echo s minor e =
    let last : List (List ℕ) = part s 16 4 ∷ [] in
    let third : List (List ℕ) = part s 12 4 ∷ last in
    let second : List (List ℕ) = part s 8 4 ∷ third in
    echo-next minor s 0 second (omega arith)
    (echo-next minor s 1 third (omega arith) (echo-next minor s 2 last (omega arith) (echo-next minor s 3 [] (omega arith) (no_more minor (drop 20 s)))))
    (choice minor s e)
