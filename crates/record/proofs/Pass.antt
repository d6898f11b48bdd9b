-- The laws of one pass over the places in which requests wait: what is left decides, with the flag so far. Assumes nothing.
use Prim.Native.Nat.{ℕ, suc, ◌+◌, ◌-◌, ◌<◌}
use native.Mathlib.Omega.{arith}
use mathlib.Core.Bool.{Bool, true, false, cond, not, ◌&&◌, ◌||◌, or_assoc}
use mathlib.Core.Path.{◌≡◌, refl, sym, ap, ◌∙◌}
use mathlib.Core.List.{List, ◌∷◌}
use mathlib.Core.Logic.{◌⊎◌, ⊎_elim}
use lib.IntN.{ℤ, pos}
use borrow.Author.Tests.{eqb-true, not-false}
use Rattle.bolt.specs.Ranges.{minus_one_or}
use Rattle.bolt.specs.Requests.{tag, RESET, DISCARD, PULL}
use Rattle.states.specs.declared.request.Request.{Request}
use Rattle.states.specs.declared.request.Request.TheVariants.{Hello, Goodbye, Reset, Run, Begin, Commit, Rollback, Discard, Pull}
use Rattle.states.specs.Requests.{any, kind_of, in_range}
use Rattle.record.specs.declared.scan.Seen.{Seen}
use Rattle.record.specs.declared.scan.Seen.TheVariants.{Plain, WithReset, Wrong}
use Rattle.record.specs.Ring.{Place, behind, lined, request_in, unnamed, wrong, is_reset}
use Rattle.record.proofs.Numbers.{tags-alike}

-- a place that holds a RESET
abbrev pub is_reset_place : Place → Bool
is_reset_place p = is_reset p.kind

-- what a pass finds that has this flag so far, and these places before it
abbrev pub seen_from : Bool → List Place → Seen
seen_from reset ps = cond (any wrong ps) Wrong (cond (reset || any is_reset_place ps) WithReset Plain)

-- the first of those that are left, i of w being passed
module _ (reset : Bool) (g : ℕ → Place) (at : ℕ) {w i : ℕ} (h : i < w) where
  first_of_left : {A : Type 0} (f : List Place → A) → f (lined g at (w - i)) ≡ f (g at ∷ lined g (behind at) (w - (i + 1)))
  first_of_left f = let more : w - i ≡ suc (w - (i + 1)) = omega arith in ap (λ (n : ℕ). f (lined g at n)) more

  -- a wrong place ends the pass
  pub pass_wrong : wrong (g at) ≡ true → seen_from reset (lined g at (w - i)) ≡ Wrong
  pass_wrong bad =
      let rest = lined g (behind at) (w - (i + 1)) in
      first_of_left (seen_from reset) ∙ ap (λ (b : Bool). cond (b || any wrong rest) Wrong (cond (reset || any is_reset_place (g at ∷ rest)) WithReset Plain)) bad

  -- any other goes into the flag
  pub pass_on : {next : ℕ} {flag : Bool} → wrong (g at) ≡ false → (reset || is_reset_place (g at)) ≡ flag → next ≡ behind at
      → seen_from reset (lined g at (w - i)) ≡ seen_from flag (lined g next (w - (i + 1)))
  pass_on right f b =
      let rest = lined g (behind at) (w - (i + 1)) in
      first_of_left (seen_from reset)
      ∙ ap (λ (x : Bool). cond (x || any wrong rest) Wrong (cond (reset || any is_reset_place (g at ∷ rest)) WithReset Plain)) right
      ∙ ap (λ (x : Bool). cond (any wrong rest) Wrong (cond x WithReset Plain)) (sym (or_assoc reset (is_reset_place (g at)) (any is_reset_place rest)))
      ∙ (λ k. seen_from (f k) (lined g (sym b k) (w - (i + 1))))

-- ---- the flag behind a place that holds no RESET
pub flag-stays : (reset : Bool) (p : Place) → is_reset_place p ≡ false → (reset || is_reset_place p) ≡ reset
flag-stays true p e = refl
flag-stays false p e = e

-- ---- a place by its kind
-- PULL, or else DISCARD
abbrev pub Fetching : ℕ → Type 0
Fetching k = (k ≡ tag PULL) ⊎ ((k ≡ tag PULL → ⊥) × (k ≡ tag DISCARD))

-- the numbers of DISCARD or PULL, out of their ranges
abbrev pub numbers_out : ℤ → ℤ → Bool
numbers_out n qid = not (minus_one_or 1 n && minus_one_or 0 qid)

module _ (p : Place) where
  -- one that fetches is wrong if its numbers are out of their ranges, and holds no RESET
  pub fetching-wrong : Fetching p.kind → wrong p ≡ numbers_out p.n p.qid
  fetching-wrong =
      let by : (k : ℕ) → Bool = λ (k : ℕ). wrong (record { kind = k; n = p.n; qid = p.qid }) in
      ⊎_elim (λ q. ap by q) (λ q. ap by q.1)

  pub fetching-calm : Fetching p.kind → is_reset_place p ≡ false
  fetching-calm = ⊎_elim (λ q. ap is_reset q) (λ q. ap is_reset q.1)

  -- a RESET never is
  pub reset-right : p.kind ≡ tag RESET → wrong p ≡ false
  reset-right e = ap (λ (k : ℕ). wrong (record { kind = k; n = p.n; qid = p.qid })) e

  -- and any other only if its kind names no request
  pub other-wrong : unnamed p ≡ true → wrong p ≡ true
  other-wrong e = ap (λ (b : Bool). b || not (in_range (request_in p))) e

  pub other-right : (p.kind ≡ tag PULL → ⊥) → (p.kind ≡ tag DISCARD → ⊥) → unnamed p ≡ false → wrong p ≡ false
  other-right pull discard e =
      let named : tag (kind_of (request_in p)) ≡ p.kind = tags-alike p.kind p.n (pos 0) p.qid (pos 0) ∙ eqb-true _ _ (not-false _ e) in
      λ i. e i || not (ranged (request_in p) (λ q. pull (sym named ∙ q)) (λ q. discard (sym named ∙ q)) i)
    where
      ranged : (r : Request) → (tag (kind_of r) ≡ tag PULL → ⊥) → (tag (kind_of r) ≡ tag DISCARD → ⊥) → in_range r ≡ true
      ranged Hello a b = refl
      ranged Goodbye a b = refl
      ranged Reset a b = refl
      ranged Run a b = refl
      ranged Begin a b = refl
      ranged Commit a b = refl
      ranged Rollback a b = refl
      ranged (Discard n qid) a b = absurd (b refl)
      ranged (Pull n qid) a b = absurd (a refl)
