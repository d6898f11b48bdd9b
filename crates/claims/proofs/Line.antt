-- The line of requests in the ring: which places name a list of requests, and how it goes on where none, one less or one more waits. Assumes
-- nothing.
use mathlib.Core.Path.{◌≡◌, refl, sym, ap, ◌∙◌}
use mathlib.Core.Bool.{false, not, ◌||◌}
use mathlib.Core.List.{List, [], ◌∷◌, ◌++◌, map, map-append, tail}
use Prim.Native.Nat.{ℕ, suc, ◌<◌}
use native.Mathlib.Numerals.{add-one}
use lib.ListN.{length, length-append, length-map}
use Rattle.bolt.specs.Requests.{tag}
use Rattle.states.specs.declared.request.Request.{Request}
use Rattle.states.specs.Requests.{kind_of, any}
use Rattle.std.proofs.lemmas.Bool.{or_parts}
use Rattle.std.proofs.lemmas.List.Folds.{list_any-append}
use Rattle.record.specs.declared.record.Queue.{Queue}
use Rattle.record.specs.Names.{count_of, qid_of}
use Rattle.record.specs.Ring.{Place, place, behind, lined, place_at, request_in, unnamed}
use Rattle.record.specs.Calls.{holding}
use Rattle.record.proofs.Numbers.{request-of-numbers, tag_names}
use Rattle.record.proofs.Places.{length-lined, put_last}

-- the places from `at` on, as many as these requests are, name them
pub record Line (g : ℕ → Place) (at : ℕ) (ws : List Request) : Type 0 where
  pub read : map request_in (lined g at (length ws)) ≡ ws
  pub named : any unnamed (lined g at (length ws)) ≡ false

module _ (g : ℕ → Place) (at : ℕ) where
  -- what is read
  pub line-own : (w : ℕ) → any unnamed (lined g at w) ≡ false → Line g at (map request_in (lined g at w))
  line-own w e =
      let size : length (map request_in (lined g at w)) ≡ w = length-map (lined g at w) request_in ∙ length-lined g at w in
      record { read = ap (λ (n : ℕ). map request_in (lined g at n)) size; named = ap (λ (n : ℕ). any unnamed (lined g at n)) size ∙ e }

  -- none waits
  pub line-none : Line g at []
  line-none = record { read = refl; named = refl }

  -- the first goes
  pub line-less : (r : Request) (ws : List Request) → Line g at (r ∷ ws) → Line g (behind at) ws
  line-less r ws l = record { read = ap tail l.read; named = (or_parts (unnamed (g at)) (any unnamed (lined g (behind at) (length ws))) l.named).1 }

-- one more comes, and its numbers are stored behind the last
pub line-more : (queue : Queue) (at w : ℕ) (ws : List Request) (r : Request) → length queue.kinds ≡ 32 → length queue.counts ≡ 32 → length queue.qids ≡ 32 → at < 32 → w < 32 → length ws ≡ w
    → Line (place_at queue) at ws → Line (place_at (holding r (place at w) queue)) at (ws ++ (r ∷ []))
line-more queue at w ws r a b c h m e l =
    let g : ℕ → Place = place_at queue in
    let g' : ℕ → Place = place_at (holding r (place at w) queue) in
    let p : Place = record { kind = tag (kind_of r); n = count_of r; qid = qid_of r } in
    let long : length (ws ++ (r ∷ [])) ≡ suc w = length-append ws (r ∷ []) ∙ add-one (length ws) ∙ ap suc e in
    let all : lined g' at (length (ws ++ (r ∷ []))) ≡ lined g at (length ws) ++ (p ∷ []) =
    ap (lined g' at) long ∙ put_last queue (tag (kind_of r)) (count_of r) (qid_of r) at w a b c h m ∙ ap (λ (n : ℕ). lined g at n ++ (p ∷ [])) (sym e) in
    record {
      read = ap (map request_in) all ∙ map-append request_in (lined g at (length ws)) (p ∷ []) ∙ (λ i. l.read i ++ (request-of-numbers r i ∷ []));
      named = ap (any unnamed) all ∙ list_any-append unnamed (lined g at (length ws)) (p ∷ []) ∙ (λ i. l.named i || (not (tag_names r i) || false));
    }
