-- The standing rules by their parts, as the check comes to them. Assumes nothing.
use mathlib.Core.Path.{◌≡◌, ap}
use mathlib.Core.Bool.{Bool, true, false, cond, not, ◌&&◌}
use mathlib.Core.List.{List}
use Prim.Native.Nat.{ℕ, ◌+◌, ◌≤◌}
use lib.Dec.{eqb, leb}
use lib.ListN.{length}
use borrow.Author.Tests.{le-leb}
use Rattle.states.specs.declared.state.State.{State}
use Rattle.states.specs.declared.state.State.TheVariants.{Interrupted, Defunct}
use Rattle.states.specs.declared.request.Request.{Request}
use Rattle.states.specs.Requests.{in_state, kind_of, out_of_range, any}
use Rattle.states.specs.Appendix.{works}
use Rattle.states.specs.Table.{Open, Table, turn_of}
use Rattle.states.specs.Rules.{waiting_rule, numbers_rule, open_rule, reset_rule, is_handed, may_be_in_flight, first_in_flight, flight_rule, counts_rule, state_rules, rules}

-- ---- the counts
module _ (s : State) (waiting accepted sent : ℕ) where
  pub counts-by : {m d : Bool} → leb accepted 4294967295 ≡ m → in_state s Defunct ≡ d
      → counts_rule s waiting accepted sent ≡ (m && cond d (eqb waiting 0 && leb sent accepted) (eqb accepted (sent + waiting)))
  unfolding counts_rule
  counts-by p q = λ i. p i && cond (q i) (eqb waiting 0 && leb sent accepted) (eqb accepted (sent + waiting))

-- ---- the one in flight
module _ (s : State) (o : Open) (r : Request) where
  pub may-in : in_state s Interrupted ≡ true → may_be_in_flight s o r ≡ works (kind_of r)
  unfolding may_be_in_flight
  may-in e = ap (λ (b : Bool). cond b (works (kind_of r)) (is_handed (turn_of s o r))) e

  pub may-out : in_state s Interrupted ≡ false → may_be_in_flight s o r ≡ is_handed (turn_of s o r)
  unfolding may_be_in_flight
  may-out e = ap (λ (b : Bool). cond b (works (kind_of r)) (is_handed (turn_of s o r))) e

module _ (in_flight : Bool) (s : State) (o : Open) (ws : List Request) where
  pub one-in-flight : in_flight ≡ true → flight_rule in_flight s o ws ≡ first_in_flight s o ws
  one-in-flight e = ap (λ (b : Bool). cond b (first_in_flight s o ws) true) e

-- ---- all of them
module _ (t : Table) where
  pub state-by : {a b c d : Bool} → open_rule t.state t.streams ≡ a → reset_rule t.state t.waiting ≡ b
      → flight_rule t.in_flight t.state t.streams t.waiting ≡ c → counts_rule t.state (length t.waiting) t.accepted t.sent ≡ d
      → state_rules t ≡ (a && (b && (c && d)))
  unfolding state_rules
  state-by p q r u = λ i. p i && (q i && (r i && u i))

  pub rules-by : {a b c : Bool} → waiting_rule t.waiting ≡ a → numbers_rule t.streams ≡ b → state_rules t ≡ c → rules t ≡ (a && (b && c))
  unfolding rules
  rules-by p q r = λ i. p i && (q i && r i)

pub waiting-by : (ws : List Request) {b : Bool} → length ws ≤ 32 → any out_of_range ws ≡ b → waiting_rule ws ≡ not b
unfolding waiting_rule
waiting-by ws h e = λ i. le-leb (length ws) 32 h i && not (e i)
