-- The laws of the ring of 32 places in which requests wait. Assumes nothing.
use Prim.Native.Nat.{ℕ, zero, suc, ◌+◌, ◌%◌, ◌<◌}
use native.Mathlib.Numerals.{add-one}
use native.Mathlib.Omega.{arith}
use mathlib.Core.Bool.{Bool, false, ◌||◌}
use mathlib.Core.Path.{◌≡◌, refl, sym, ap, ◌∙◌}
use mathlib.Core.List.{List, [], ◌∷◌, ◌++◌, map}
use lib.IntN.{ℤ, pos}
use lib.ListN.{length, get_or, set}
use lib.Seq.{get_or-set_same, get_or-set_other}
use Rattle.states.specs.Requests.{is, any}
use Rattle.bolt.specs.Requests.{RESET}
use Rattle.record.specs.declared.record.Queue.{Queue}
use Rattle.record.specs.Ring.{Place, behind, place, lined, kind_at, place_at, request_in, is_reset}
use Rattle.record.proofs.Numbers.{reset-by-kind}

-- ---- places, counted around
place-zero : (at : ℕ) → at < 32 → place at 0 ≡ at
place-zero at h = omega (arith, h)

place-behind : (at i : ℕ) → place (behind at) i ≡ place at (suc i)
place-behind at i = omega arith

pub behind-below : (at : ℕ) → behind at < 32
behind-below at = omega arith

pub place-below : (at i : ℕ) → place at i < 32
place-below at i = omega arith

-- a place below 32 is read where it is
pub read_here : (p : ℕ) → p < 32 → p % 32 ≡ p
read_here p h = omega (arith, h)

-- no two of the places that are read are the same
pub places-differ : (at i w : ℕ) → i < w → w < 32 → place at i ≡ place at w → ⊥
places-differ at i w h k e = omega (arith, h, k, e)

-- ---- the line that is read out of the ring
module _ {A : Type 0} where
  pub length-lined : (g : ℕ → A) (at w : ℕ) → length (lined g at w) ≡ w
  length-lined g at zero = refl
  length-lined g at (suc w) = ap suc (length-lined g (behind at) w)

  -- places that are not read do not matter
  pub alike : (g g' : ℕ → A) (w at : ℕ) → at < 32 → ((i : ℕ) → i < w → g (place at i) ≡ g' (place at i)) → lined g at w ≡ lined g' at w
  alike g g' zero at h e = refl
  alike g g' (suc w) at h e =
      let here : g at ≡ g' at = ap g (sym (place-zero at h)) ∙ e 0 (omega arith) ∙ ap g' (place-zero at h) in
      let rest : lined g (behind at) w ≡ lined g' (behind at) w = alike g g' w (behind at) (behind-below at) (λ i k. ap g (place-behind at i) ∙ e (suc i) (omega (arith, k)) ∙ ap g' (sym (place-behind at i))) in
      λ i. here i ∷ rest i

  -- one place more
  pub one_more_lem : (g : ℕ → A) (w at : ℕ) → at < 32 → lined g at (suc w) ≡ lined g at w ++ (g (place at w) ∷ [])
  one_more_lem g zero at h = ap (λ (p : ℕ). g p ∷ []) (sym (place-zero at h))
  one_more_lem g (suc w) at h = ap (λ (l : List A). g at ∷ l) (one_more_lem g w (behind at) (behind-below at) ∙ ap (λ (p : ℕ). lined g (behind at) w ++ (g p ∷ [])) (place-behind at w))

  -- what comes into the place behind the last stands at the line's end
  pub enqueue : (g g' : ℕ → A) (at w : ℕ) → at < 32 → w < 32 → ((p : ℕ) → p < 32 → (p ≡ place at w → ⊥) → g' p ≡ g p) → lined g' at (suc w) ≡ lined g at w ++ (g' (place at w) ∷ [])
  enqueue g g' at w h k e =
      one_more_lem g' w at h
      ∙ ap (λ (l : List A). l ++ (g' (place at w) ∷ [])) (alike g' g w at h (λ i j. e (place at i) (place-below at i) (places-differ at i w j k)))

-- ---- stores in the arrays
module _ {A : Type 0} (l : List A) (d x : A) where
  -- what is stored in a place is read there, and nowhere else
  pub stored_here : (p : ℕ) → length l ≡ 32 → p < 32 → get_or (set l p x) (p % 32) d ≡ x
  stored_here p n h = ap (λ (q : ℕ). get_or (set l p x) q d) (read_here p h) ∙ get_or-set_same l p x d (omega (arith, h, n))

  pub stored-else : (q p : ℕ) → p < 32 → (p ≡ q → ⊥) → get_or (set l q x) (p % 32) d ≡ get_or l (p % 32) d
  stored-else q p h e = get_or-set_other l q (p % 32) x d (λ (same : p % 32 ≡ q). e (sym (read_here p h) ∙ same))

-- the same of the queue, whose arrays hold a request's numbers
module _ (queue : Queue) (k : ℕ) (n q : ℤ) where
  abbrev putting : ℕ → Queue
  putting at = record { kinds = set queue.kinds at k; counts = set queue.counts at n; qids = set queue.qids at q }

  put-here : (p : ℕ) → length queue.kinds ≡ 32 → length queue.counts ≡ 32 → length queue.qids ≡ 32 → p < 32 → place_at (putting p) p ≡ record { kind = k; n = n; qid = q }
  put-here p a b c h = λ i. record {
    kind = stored_here queue.kinds 0 k p a h i;
    n = stored_here queue.counts (pos 0) n p b h i;
    qid = stored_here queue.qids (pos 0) q p c h i;
  }

  put-else : (at p : ℕ) → p < 32 → (p ≡ at → ⊥) → place_at (putting at) p ≡ place_at queue p
  put-else at p h e = λ i. record {
    kind = stored-else queue.kinds 0 k at p h e i;
    n = stored-else queue.counts (pos 0) n at p h e i;
    qid = stored-else queue.qids (pos 0) q at p h e i;
  }

  pub put_last : (at w : ℕ) → length queue.kinds ≡ 32 → length queue.counts ≡ 32 → length queue.qids ≡ 32 → at < 32 → w < 32
      → lined (place_at (putting (place at w))) at (suc w) ≡ lined (place_at queue) at w ++ (record { kind = k; n = n; qid = q } ∷ [])
  put_last at w a b c h m =
      enqueue (place_at queue) (place_at (putting (place at w))) at w h m (put-else (place at w))
      ∙ ap (λ (p : Place). lined (place_at queue) at w ++ (p ∷ [])) (put-here (place at w) a b c (place-below at w))

-- ---- a scan in the order in which they wait: where the first does not pass, what is behind it decides
pub passed : {A : Type 0} (f : A → Bool) (g : ℕ → A) (at w v : ℕ) → w ≡ v + 1 → f (g at) ≡ false → any f (lined g at w) ≡ any f (lined g (behind at) v)
passed f g at w v e t = ap (λ (n : ℕ). any f (lined g at n)) (e ∙ add-one v) ∙ ap (λ (b : Bool). b || any f (lined g (behind at) v)) t

-- ---- a RESET among those that wait, by the kinds alone
pub resets-by-kind : (ps : List Place) → any (is RESET) (map request_in ps) ≡ any (λ (p : Place). is_reset p.kind) ps
resets-by-kind [] = refl
resets-by-kind (p ∷ ps) = λ i. reset-by-kind p.kind p.n p.qid i || resets-by-kind ps i

pub resets-in-kinds : (queue : Queue) (at w : ℕ) → any (λ (p : Place). is_reset p.kind) (lined (place_at queue) at w) ≡ any is_reset (lined (kind_at queue.kinds) at w)
resets-in-kinds queue at zero = refl
resets-in-kinds queue at (suc w) = ap (λ (b : Bool). is_reset (kind_at queue.kinds at) || b) (resets-in-kinds queue (behind at) w)
