-- The calls in numbers, by what `connection`'s calls give. Assumes nothing.
use Prim.Native.Nat.{ℕ}
use mathlib.Core.Path.{◌≡◌, refl, ap, ◌∙◌}
use mathlib.Core.Bool.{Bool, true, false, cond}
use lib.IntN.{pos}
use Rattle.refusal.specs.Answer.{Answer, refused}
use Rattle.states.specs.declared.state.State.TheVariants.{Defunct}
use Rattle.states.specs.declared.request.Request.{Request}
use Rattle.states.specs.declared.request.Request.TheVariants.{Pull}
use Rattle.states.specs.Requests.{in_state}
use Rattle.states.specs.Table.{Said, Done, unless_defunct, arrive_t, report_t}
use Rattle.states.proofs.Bools.{by-test}
use Rattle.record.specs.declared.record.Connection.{Connection}
use Rattle.record.specs.Names.{is_request}
use Rattle.record.specs.Record.{kept}
use Rattle.record.specs.Calls.{After, Storing, storing, nowhere, called, arrive_of, take_of, report_of, close_of}
use Rattle.meulhaton_fields.specs.declared.request.RequestImage.{RequestImage}
use Rattle.meulhaton_calls.specs.declared.arguments.OutcomeImage.{OutcomeImage}
use Rattle.meulhaton_calls.specs.declared.replies.Reply.{Reply}
use Rattle.meulhaton_calls.specs.Replies.{reply_of}
use Rattle.meulhaton_calls.specs.Calls.{request_in, arriving, outcome_of, is_outcome, arrive, take, report, close, in_numbers, unnamed_of, call_on}
use Rattle.meulhaton_calls.proofs.Choices.{chosen, other}

-- ---- what a call leaves, as numbers: its reply is made of its answer
pub replied : {c : Connection} {a : Answer Said} {p : Reply} {w : After} → p ≡ reply_of a → record { connection = c; answer = a } ≡ w → record { connection = c; reply = p } ≡ in_numbers w
replied {c} e f = ap (λ (p : Reply). record { connection = c; reply = p }) e ∙ ap in_numbers f

-- ---- an arriving request
-- nothing is stored of a call that is refused
unstored : (f g : Storing) (c : Connection) (number : ℕ) → called f c (unless_defunct (kept c) (refused number 0)) ≡ called g c (unless_defunct (kept c) (refused number 0))
unstored f g c number = by-test (λ (a : Answer Done). called f c a ≡ called g c a) (in_state (kept c).state Defunct) (λ _. refl) (λ _. refl)

-- where the kind names none, the request handed in is refused as that is
arrives-by : (c : Connection) (r : Request) (b : Bool)
    → arrive_of c (cond b r (Pull (pos 0) (pos 0))) ≡ called (storing r) c (cond b (arrive_t (kept c) r) (unless_defunct (kept c) (refused 27 0)))
arrives-by c r true = refl
arrives-by c r false = unstored (storing (Pull (pos 0) (pos 0))) (storing r) c 27

module _ (c : Connection) where
  pub in-numbers-arrive : (r : RequestImage) → in_numbers (arrive_of c (arriving r)) ≡ call_on c (arrive r)
  unfolding call_on
  in-numbers-arrive r = ap in_numbers (arrives-by c (request_in r) (is_request r.kind))

  pub in-numbers-take : in_numbers (take_of c) ≡ call_on c take
  unfolding call_on
  in-numbers-take = refl

  pub in-numbers-close : in_numbers (close_of c) ≡ call_on c close
  unfolding call_on
  in-numbers-close = refl

  module _ (o : OutcomeImage) where
    abbrev none : Answer Done
    none = unless_defunct (kept c) (refused 19 0)

    pub in-numbers-named : is_outcome o ≡ true → in_numbers (report_of c (outcome_of o.number)) ≡ call_on c (report o)
    unfolding call_on
    in-numbers-named e = ap (λ (a : Answer Done). in_numbers (called nowhere c a)) (chosen (is_outcome o) (report_t (kept c) (outcome_of o.number)) none e)

    pub in-numbers-unnamed : is_outcome o ≡ false → unnamed_of c ≡ call_on c (report o)
    unfolding call_on
    in-numbers-unnamed e = ap (λ (a : Answer Done). in_numbers (called nowhere c a)) (other (is_outcome o) (report_t (kept c) (outcome_of o.number)) none e)
