-- Laws of serving: what follows an arrival, and one turn more. Assumes nothing.
use mathlib.Core.Path.{◌≡◌, sym, ap, ◌∙◌}
use Prim.Native.Nat.{ℕ, suc}
use Rattle.refusal.specs.Answer.{Answer}
use Rattle.states.specs.declared.request.Request.{Request}
use Rattle.states.specs.Table.{Said}
use Rattle.record.specs.declared.record.Connection.{Connection}
use Rattle.record.specs.Calls.{After, arrive_of}
use Rattle.serving.specs.Serving.{turn_of, following, followed, serving, turns, served}

-- ---- what follows an answer
pub arrived : (c : Connection) (q : Request) (a : After) (x : Answer Said) → a ≡ arrive_of c q → a.answer ≡ x → following x a.connection (serving turns a.connection) ≡ served c q
unfolding served
arrived c q a x h e =
    sym (ap (λ (y : Answer Said). following y a.connection (serving turns a.connection)) e) ∙ ap (λ (b : After). followed b (serving turns b.connection)) h

pub stepped : (n : ℕ) (c : Connection) (a : After) (x : Answer Said) → a ≡ turn_of c → a.answer ≡ x → serving (suc n) c ≡ following x a.connection (serving n a.connection)
unfolding serving
stepped n c a x h e = sym (ap (λ (b : After). followed b (serving n b.connection)) h) ∙ ap (λ (y : Answer Said). following y a.connection (serving n a.connection)) e
