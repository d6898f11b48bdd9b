-- The calls by what each asks of a record first, and by the tests that it makes then. Assumes nothing.
use mathlib.Core.Path.{◌≡◌, refl, sym, ap, ◌∙◌, subst}
use mathlib.Core.Bool.{Bool, true, false, cond}
use Prim.Native.Nat.{ℕ}
use denote.Enum.Bare.{sameb, same_true, true_same}
use borrow.Author.Tests.{eq-eqb}
use Rattle.std.proofs.Common.{rules}
use Rattle.refusal.specs.Answer.{Answer, returned, refused}
use Rattle.states.specs.declared.state.State.{State}
use Rattle.states.specs.declared.state.State.TheVariants.{Defunct}
use Rattle.states.specs.contracts.state.State as state-type
use Rattle.states.specs.declared.request.Request.{Request}
use Rattle.states.specs.declared.request.Request.TheVariants.{Hello, Goodbye, Reset, Run, Begin, Commit, Rollback, Discard, Pull}
use Rattle.bolt.specs.Requests.{RESET}
use Rattle.states.specs.Requests.{rank, in_state, is}
use Rattle.states.specs.Table.{Done, unless_defunct}
use Rattle.states.proofs.Bools.{by-test}
use Rattle.states.proofs.Rows.{same-state}
use Rattle.record.specs.declared.record.Connection.{Connection}
use Rattle.record.specs.Record.{state_in, kept, keeps_rules}
use Rattle.record.specs.Calls.{After, Storing, carried, called}
use Rattle.steps.specs.Opening.{opening_of}

-- ---- a call by its opening: it is refused, or goes on
module _ (f : Storing) (c : Connection) (a : Answer Done) where
  abbrev from : Answer State → After
  from (returned s) = carried f c a
  from (refused number place) = record { connection = c; answer = refused number place }

  opens : from (opening_of c) ≡ called f c (unless_defunct (kept c) a)
  opens = by (keeps_rules c) (in_state (state_in c.control) Defunct)
    where
      by : (k d : Bool) → from (cond k (cond d (refused 18 0) (returned (state_in c.control))) (refused 24 0))
          ≡ cond k (carried f c (cond d (refused 18 0) a)) (record { connection = c; answer = refused 24 0 })
      by true true = refl
      by true false = refl
      by false d = refl

  pub refuses : {number place : ℕ} → refused number place ≡ opening_of c → record { connection = c; answer = refused number place } ≡ called f c (unless_defunct (kept c) a)
  refuses e = ap from e ∙ opens

  pub goes_on : {s : State} → returned s ≡ opening_of c → carried f c a ≡ called f c (unless_defunct (kept c) a)
  goes_on e = ap from e ∙ opens

-- ---- what is known of the record where it goes on
pub record Found (c : Connection) (s : State) : Type 0 where
  pub keeps : keeps_rules c ≡ true
  pub alive : in_state (state_in c.control) Defunct ≡ false
  pub state : s ≡ state_in c.control

module _ (c : Connection) where
  abbrev Finds : Answer State → Type 0
  Finds (returned s) = Found c s
  Finds (refused number place) = Unit {0}

  finds : Finds (opening_of c)
  finds = by-test Finds (keeps_rules c) (λ k. by-test Finds (in_state (state_in c.control) Defunct) (λ _. tt) (λ d. record { keeps = k; alive = d; state = refl })) (λ _. tt)

  pub found : {s : State} → returned s ≡ opening_of c → Found c s
  found e = subst Finds (sym e) finds

-- ---- tests of a state, and of a request
same-test : (s q : State) → sameb state-type.the_type s q ≡ in_state s q
same-test s q =
    by (sameb state-type.the_type s q) (in_state s q) (λ e. eq-eqb (rank s) (rank q) (ap rank (same_true state-type.the_type (search rules) s q e)))
    (λ e. true_same state-type.the_type s q (same-state s q e))
  where
    by : (a b : Bool) → (a ≡ true → b ≡ true) → (b ≡ true → a ≡ true) → a ≡ b
    by true true f g = refl
    by true false f g = sym (f refl)
    by false true f g = g refl
    by false false f g = refl

pub state-test : (s q : State) {b : Bool} → b ≡ sameb state-type.the_type s q → in_state s q ≡ b
state-test s q e = sym (e ∙ same-test s q)

pub no-reset : (r : Request) → (r ≡ Reset → ⊥) → is RESET r ≡ false
no-reset Hello f = refl
no-reset Goodbye f = refl
no-reset Reset f = absurd (f refl)
no-reset Run f = refl
no-reset Begin f = refl
no-reset Commit f = refl
no-reset Rollback f = refl
no-reset (Discard n qid) f = refl
no-reset (Pull n qid) f = refl
