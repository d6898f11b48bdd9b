-- The standing rules by their parts, as the check comes to them, and what a record has that keeps them. Assumes nothing.
use mathlib.Core.Path.{◌≡◌, refl, sym, ap, ◌∙◌}
use mathlib.Core.Bool.{Bool, true, false, cond, not, ◌&&◌, ◌||◌, and-false, beq}
use mathlib.Core.List.{List, [], ◌∷◌, map}
use Prim.Native.Nat.{ℕ, ◌+◌, ◌<◌, ◌≤◌}
use native.Mathlib.Omega.{arith}
use lib.Dec.{eqb, ltb, leb}
use lib.ListN.{length}
use borrow.Author.Tests.{eq-eqb, leb-true, eqb-true}
use Rattle.states.specs.declared.state.State.{State}
use Rattle.states.specs.declared.state.State.TheVariants.{Interrupted, Defunct}
use Rattle.states.specs.Requests.{in_state, out_of_range, any}
use Rattle.states.specs.Table.{Open, Table}
use Rattle.states.specs.Rules.{distinct_below, waiting_rule, numbers_rule, open_rule, reset_rule, may_be_in_flight, first_in_flight, flight_rule, counts_rule, state_rules, rules}
use Rattle.std.proofs.lemmas.Bool.{and_parts}
use Rattle.states.proofs.Standing.{counts-by, one-in-flight, state-by, rules-by, waiting-by}
use Rattle.record.specs.declared.record.Control.{Control}
use Rattle.record.specs.declared.record.Connection.{Connection}
use Rattle.record.specs.declared.record.Queue.{Queue}
use Rattle.record.specs.declared.scan.Seen.TheVariants.{Plain, WithReset, Wrong}
use Rattle.record.specs.Ring.{Place, place_at, request_in, unnamed, wrong, is_reset}
use Rattle.record.specs.Record.{joined, state_in, is_in_flight, open_in, places_in, waiting_in, kept, bounded, named, keeps_rules}
use Rattle.record.specs.Private.Seen.{seen_of, seen_holds}
use Rattle.record.proofs.Keeping.{Bounds, bounds, size, first-waits, first_in}
use Rattle.record.proofs.Places.{resets-by-kind}

-- ---- the bounds
pub bounded-by : (k : Control) {a b c d e : Bool} → leb k.state 7 ≡ a → leb k.in_flight 1 ≡ b → ltb k.first 32 ≡ c → leb k.waiting 32 ≡ d → leb k.opened 8 ≡ e
    → bounded k ≡ (a && (b && (c && (d && e))))
unfolding bounded
bounded-by k p q r u v = λ i. p i && (q i && (r i && (u i && v i)))

-- ---- those that wait
either : (a b c d : Bool) → ((a || b) || (c || d)) ≡ ((a || c) || (b || d))
either true b c d = refl
either false true true d = refl
either false true false d = refl
either false false c d = refl

-- a place is wrong if it names no request, or one that is out of range
any-wrong : (ps : List Place) → any wrong ps ≡ (any unnamed ps || any out_of_range (map request_in ps))
any-wrong [] = refl
any-wrong (p ∷ ps) = ap (λ (b : Bool). wrong p || b) (any-wrong ps) ∙ either (unnamed p) (out_of_range (request_in p)) (any unnamed ps) (any out_of_range (map request_in ps))

-- what one pass over them finds says it all
module _ (s : State) where
  seen_by : (w r : Bool) → seen_holds s (cond w Wrong (cond r WithReset Plain)) ≡ (not w && beq (in_state s Interrupted) r)
  seen_by true r = refl
  seen_by false true = yes (in_state s Interrupted)
    where
      yes : (b : Bool) → b ≡ beq b true
      yes true = refl
      yes false = refl
  seen_by false false = no (in_state s Interrupted)
    where
      no : (b : Bool) → not b ≡ beq b false
      no true = refl
      no false = refl

  neither : (a b c : Bool) → (not (a || b) && c) ≡ (not a && (not b && c))
  neither true b c = refl
  neither false b c = refl

  pub seen-is : (ps : List Place) → seen_holds s (seen_of ps) ≡ (not (any unnamed ps) && (not (any out_of_range (map request_in ps)) && reset_rule s (map request_in ps)))
  seen-is ps =
      seen_by (any wrong ps) (any (λ (p : Place). is_reset p.kind) ps)
      ∙ (λ i. not (any-wrong ps i) && beq (in_state s Interrupted) (sym (resets-by-kind ps) i))
      ∙ neither (any unnamed ps) (any out_of_range (map request_in ps)) (reset_rule s (map request_in ps))

-- ---- all of them, in the order of the check
in_order : (n x u o r f m : Bool) → (n && (x && (u && (o && (r && (f && m)))))) ≡ (m && ((u && o) && ((n && (x && r)) && f)))
in_order false x u o r f m = sym (ap (λ (b : Bool). m && b) (and-false (u && o)) ∙ and-false m)
in_order true false u o r f m = sym (ap (λ (b : Bool). m && b) (and-false (u && o)) ∙ and-false m)
in_order true true false o r f m = sym (and-false m)
in_order true true true false r f m = sym (and-false m)
in_order true true true true false f m = sym (and-false m)
in_order true true true true true false m = sym (and-false m)
in_order true true true true true true true = refl
in_order true true true true true true false = refl

module _ (k : Control) (streams : List ℕ) (queue : Queue) where
  abbrev ps : List Place
  ps = places_in k queue

  abbrev o : Open
  o = open_in k streams

  -- what the check asks where the bounds hold
  within : bounded k ≡ true → (named (joined k streams queue) && rules (kept (joined k streams queue)))
      ≡ (counts_rule (state_in k) k.waiting k.accepted k.sent && ((numbers_rule o && open_rule (state_in k) o) && (seen_holds (state_in k) (seen_of ps) && flight_rule (is_in_flight k) (state_in k) o (map request_in ps))))
  unfolding named
  within e =
      let t : Table = kept (joined k streams queue) in
      let s : State = state_in k in
      let n : Bool = not (any unnamed ps) in
      let x : Bool = not (any out_of_range (map request_in ps)) in
      let f : Bool = flight_rule (is_in_flight k) s o (map request_in ps) in
      let m : Bool = counts_rule s k.waiting k.accepted k.sent in
      let few : length (map request_in ps) ≤ 32 = omega (arith, (bounds k e).few, size k streams queue) in
      let state = state-by t refl refl refl (ap (λ (w : ℕ). counts_rule s w k.accepted k.sent) (size k streams queue)) in
      ap (λ (b : Bool). n && b) (rules-by t (waiting-by (map request_in ps) few refl) refl state)
      ∙ in_order n x (numbers_rule o) (open_rule s o) (reset_rule s (map request_in ps)) f m
      ∙ ap (λ (b : Bool). m && ((numbers_rule o && open_rule s o) && (b && f))) (sym (seen-is s ps))

  pub in_parts : keeps_rules (joined k streams queue)
      ≡ (bounded k && (counts_rule (state_in k) k.waiting k.accepted k.sent
      && ((numbers_rule o && open_rule (state_in k) o) && (seen_holds (state_in k) (seen_of ps) && flight_rule (is_in_flight k) (state_in k) o (waiting_in k queue)))))
  unfolding keeps_rules
  in_parts = where_true (bounded k) within
    where
      where_true : (b : Bool) {x y : Bool} → (b ≡ true → x ≡ y) → (b && x) ≡ (b && y)
      where_true true e = e refl
      where_true false e = refl

  -- ---- the one in flight is the first that waits
  abbrev flight : Bool
  flight = flight_rule (is_in_flight k) (state_in k) o (waiting_in k queue)

  first-flies : is_in_flight k ≡ true → 0 < k.waiting → flight ≡ may_be_in_flight (state_in k) o (first_in k streams queue)
  first-flies e some =
      one-in-flight (is_in_flight k) (state_in k) o (waiting_in k queue) e
      ∙ ap (first_in_flight (state_in k) o) (first-waits k streams queue some)

  pub one_flies : k.in_flight ≡ 1 → (k.waiting ≡ 0 → ⊥) → flight ≡ may_be_in_flight (state_in k) o (first_in k streams queue)
  one_flies e some = first-flies (eq-eqb k.in_flight 1 e) (omega (arith, some))

-- ---- what a table has that keeps the rules
ruled-state : (t : Table) → rules t ≡ true → state_rules t ≡ true
unfolding rules
ruled-state t e = (and_parts (numbers_rule t.streams) (state_rules t) ((and_parts (waiting_rule t.waiting) (numbers_rule t.streams && state_rules t) e).1)).1

ruled-next : (t : Table) → rules t ≡ true → t.streams.next ≤ 65536
unfolding rules numbers_rule
ruled-next t e =
    let o = t.streams in
    let numbers = (and_parts (numbers_rule o) (state_rules t) ((and_parts (waiting_rule t.waiting) (numbers_rule o && state_rules t) e).1)).0 in
    let rest = (and_parts (leb (length o.numbers) 8) (leb o.next 65536 && distinct_below o.next o.numbers) numbers).1 in
    leb-true o.next 65536 ((and_parts (leb o.next 65536) (distinct_below o.next o.numbers) rest).0)

state-flight : (t : Table) → state_rules t ≡ true → flight_rule t.in_flight t.state t.streams t.waiting ≡ true
unfolding state_rules
state-flight t e =
    let counts = counts_rule t.state (length t.waiting) t.accepted t.sent in
    let flight = flight_rule t.in_flight t.state t.streams t.waiting in
    let reset = reset_rule t.state t.waiting in
    (and_parts flight counts ((and_parts reset (flight && counts) ((and_parts (open_rule t.state t.streams) (reset && (flight && counts)) e).1)).1)).0

state-counts : (t : Table) → state_rules t ≡ true → counts_rule t.state (length t.waiting) t.accepted t.sent ≡ true
unfolding state_rules
state-counts t e =
    let counts = counts_rule t.state (length t.waiting) t.accepted t.sent in
    let flight = flight_rule t.in_flight t.state t.streams t.waiting in
    let reset = reset_rule t.state t.waiting in
    (and_parts flight counts ((and_parts reset (flight && counts) ((and_parts (open_rule t.state t.streams) (reset && (flight && counts)) e).1)).1)).1

-- ---- what a record has that keeps them
module _ (c : Connection) (keeps : keeps_rules c ≡ true) where
  pub kept-bounded : bounded c.control ≡ true
  unfolding keeps_rules
  kept-bounded = (and_parts (bounded c.control) (named c && rules (kept c)) keeps).0

  pub kept-bounds : Bounds c.control
  kept-bounds = bounds c.control kept-bounded

  pub kept-rules : rules (kept c) ≡ true
  unfolding keeps_rules
  kept-rules = (and_parts (named c) (rules (kept c)) ((and_parts (bounded c.control) (named c && rules (kept c)) keeps).1)).1

  pub next-most : c.control.next ≤ 65536
  next-most = ruled-next (kept c) kept-rules

module _ (k : Control) (streams : List ℕ) (queue : Queue) (keeps : keeps_rules (joined k streams queue) ≡ true) where
  abbrev t : Table
  t = kept (joined k streams queue)

  kept-state : state_rules t ≡ true
  kept-state = ruled-state t (kept-rules (joined k streams queue) keeps)

  -- while a request waits, fewer summaries were sent than requests can be accepted
  pub room : in_state (state_in k) Defunct ≡ false → 0 < k.waiting → k.sent < 4294967295
  room alive some =
      let w : ℕ = length (waiting_in k queue) in
      let most : Bool = leb k.accepted 4294967295 in
      let sum : Bool = eqb k.accepted (k.sent + w) in
      let both : (most && sum) ≡ true = sym (counts-by (state_in k) w k.accepted k.sent refl alive) ∙ state-counts t kept-state in
      let high : k.accepted ≤ 4294967295 = leb-true k.accepted 4294967295 ((and_parts most sum both).0) in
      let all : k.accepted ≡ k.sent + w = eqb-true k.accepted (k.sent + w) ((and_parts most sum both).1) in
      omega (arith, size k streams queue)

  -- the one in flight may be
  pub flies : is_in_flight k ≡ true → 0 < k.waiting → may_be_in_flight (state_in k) (open_in k streams) (request_in (place_at queue k.first)) ≡ true
  flies e some = sym (first-flies k streams queue e some) ∙ state-flight t kept-state
