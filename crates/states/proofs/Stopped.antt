-- A stopped connection ignores work. Assumes nothing.
use mathlib.Core.Path.{◌≡◌, refl, sym, ap, ◌∙◌}
use mathlib.Core.Bool.{true, false, cond}
use mathlib.Core.List.{List, [], ◌∷◌, ◌++◌, map}
use Prim.Native.Nat.{ℕ}
use native.Mathlib.Nat.{add-zero}
use native.Mathlib.Omega.{arith}
use lib.ListN.{length}
use Rattle.refusal.specs.Answer.{Answer, returned, refused}
use Rattle.states.specs.declared.state.State.{State}
use Rattle.states.specs.declared.request.Request.{Request}
use Rattle.states.specs.declared.answers.Summary.TheVariants.{Ignored}
use Rattle.states.specs.declared.turn.Turn.{Turn}
use Rattle.states.specs.declared.turn.Turn.TheVariants as U
use Rattle.states.specs.Requests.{kind_of, is_stopped, is}
use Rattle.bolt.specs.Requests.{RESET}
use Rattle.states.specs.Appendix.{works}
use Rattle.states.specs.Table as T
use Rattle.states.specs.Table.{Open, Table, Done, turn_of, counted, taken, take_first, step}
use Rattle.states.specs.Events.{Event, said_by, left_by, run_t, events_t}
use Rattle.states.specs.Stopped.{all_work, takes, all_ignored, passed, Stopped, Claim}
use Rattle.std.proofs.lemmas.Bool.{and_parts}
use Rattle.states.proofs.Rows.{work-six, ignored-listed, ignored-stays, stopped-hands, stopped-live, works-calm}
use Rattle.states.proofs.Turns.{ignores-by, turn_by}

turns : (s : State) (o : Open) (r : Request) → is_stopped s ≡ true → turn_of s o r ≡ cond (is RESET r) U.Resets (cond (works (kind_of r)) U.Ignored U.Closes)
turns s o r stopped = turn_by s o r refl (ignores-by s (kind_of r) stopped) (stopped-hands s (kind_of r) stopped) refl refl refl refl

-- ---- a pipeline of work
-- the first of the requests is ignored
module _ (t : Table) (r : Request) (rs behind : List Request) (s : Stopped t (r ∷ rs) behind) where
  abbrev next : Table
  next = counted t t.state t.streams (rs ++ behind)

  first-ignored : step t T.take ≡ returned (taken U.Ignored t r (rs ++ behind))
  first-ignored =
      let stopped = s.stopped in
      let turn : turn_of t.state t.streams r ≡ U.Ignored = turns t.state t.streams r stopped ∙ λ i. cond (works-calm (kind_of r) work i) U.Resets (cond (work i) U.Ignored U.Closes) in
      (λ i. cond (stopped-live t.state stopped i) (refused 18 0) (returned (cond (s.none i) (record { table = t; said = T.idle }) (take_first t (s.wait i)))))
      ∙ ap (λ (u : Turn). returned (taken u t r (rs ++ behind))) turn
    where
      work : works (kind_of r) ≡ true
      work = (and_parts (works (kind_of r)) (all_work rs) s.work).0

  stopped-next : Stopped next rs behind
  stopped-next = record { stopped = s.stopped; none = refl; wait = refl; work = (and_parts (works (kind_of r)) (all_work rs) s.work).1 }

ignoring : (t : Table) (first behind : List Request) → Stopped t first behind → map (λ (e : Event). e.answer) (events_t t (takes first)) ≡ all_ignored t.sent first
ignoring t [] behind s = refl
ignoring t (r ∷ rs) behind s =
    ap (λ (a : Answer Done). said_by a ∷ map (λ (e : Event). e.answer) (events_t (left_by t a) (takes rs))) (first-ignored t r rs behind s)
    ∙ ap (λ (l : List (Answer T.Said)). returned (T.answered Ignored (T.number_after t.sent)) ∷ l) (ignoring (next t r rs behind s) rs behind (stopped-next t r rs behind s))

keeping : (t : Table) (first behind : List Request) → Stopped t first behind → run_t t (takes first) ≡ passed t (length first) behind
keeping t [] behind s = λ i. record { state = t.state; waiting = s.wait i; in_flight = s.none i; streams = t.streams; accepted = t.accepted; sent = sym (add-zero t.sent) i }
keeping t (r ∷ rs) behind s =
    ap (λ (a : Answer Done). run_t (left_by t a) (takes rs)) (first-ignored t r rs behind s) ∙ keeping (next t r rs behind s) rs behind (stopped-next t r rs behind s)
    ∙ ap (λ (n : ℕ). record { state = t.state; waiting = behind; in_flight = false; streams = t.streams; accepted = t.accepted; sent = n }) (omega arith)

pub stopped : Claim
stopped = record {
  six = work-six;
  listed = ignored-listed;
  stays = ignored-stays;
  turns = turns;
  ignoring = ignoring;
  keeping = keeping;
}
