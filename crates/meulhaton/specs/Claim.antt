-- Nothing is lost on the way across: what the layers name has its numbers, 24 is given exactly where it is due, and what the calls do to the
-- fresh record is what the state table says, as numbers. Proved in proofs/Crossing.antt. Assumes nothing.
use Rattle.std.specs.Prelude.{true, false, cond, List, [], ◌∷◌, ◌++◌, map, ◌≡◌, eqb}
use Rattle.refusal.specs.Answer.{refused}
use Rattle.states.specs.declared.state.State.{State}
use Rattle.states.specs.declared.request.Request.{Request}
use Rattle.states.specs.declared.answers.Outcome.{Outcome}
use Rattle.states.specs.declared.answers.Outcome.TheVariants.{Success, More, Failure}
use Rattle.states.specs.declared.answers.Summary.{Summary}
use Rattle.states.specs.Requests.{rank}
use Rattle.states.specs.Table as T
use Rattle.states.specs.Table.{Table, Call, start}
use Rattle.states.specs.Events.{Event, said_by, left_by}
use Rattle.record.specs.declared.record.Connection.{Connection}
use Rattle.record.specs.Names.{state_of, is_state, is_request}
use Rattle.record.specs.Record.{keeps_rules, fresh}
use Rattle.claims.specs.Calls.{run, events}
use Rattle.meulhaton_fields.specs.Requests.{request_image}
use Rattle.meulhaton_calls.specs.declared.arguments.OutcomeImage.{OutcomeImage}
use Rattle.meulhaton_calls.specs.declared.replies.Reply.{Reply}
use Rattle.meulhaton_calls.specs.Replies.{summary_image, reply_of}
use Rattle.meulhaton_calls.specs.Calls as C
use Rattle.meulhaton_calls.specs.Calls.{request_in, outcome_of, is_outcome, CallImage, step_on, call_on}
use Rattle.meulhaton_calls.specs.Summaries.{summary_of, is_summary}

-- an outcome's number
abbrev pub outcome_image : Outcome → OutcomeImage
outcome_image Success = record { number = 0 }
outcome_image More = record { number = 1 }
outcome_image Failure = record { number = 2 }

-- what has numbers is named by them
pub record Faithful : Type 0 where
  pub state : (s : State) → (state_of (rank s) ≡ s) × (is_state (rank s) ≡ true)
  pub request : (r : Request) → (request_in (request_image r) ≡ r) × (is_request (request_image r).kind ≡ true)
  pub outcome : (o : Outcome) → (outcome_of (outcome_image o).number ≡ o) × (is_outcome (outcome_image o) ≡ true)
  pub summary : (s : Summary) → (summary_of (summary_image s) ≡ s) × (is_summary (summary_image s) ≡ true)

-- ---- 24, of any record and any call
pub record Checked (c : Connection) (call : CallImage) : Type 0 where
  -- where the record breaks a standing rule, the call is refused with 24 and the record stays
  pub broken : keeps_rules c ≡ false → call_on c call ≡ record { connection = c; reply = reply_of (refused 24 0) }
  -- and nowhere else
  pub only : (call_on c call).reply.refusal ≡ 24 → keeps_rules c ≡ false
  -- whatever the refusal is, the record stays
  pub unchanged : eqb (call_on c call).reply.refusal 0 ≡ false → (call_on c call).connection ≡ c

-- ---- a list of calls, each on the record that the one before it left
abbrev pub run_on : Connection → List CallImage → Connection
run_on c [] = c
run_on c (x ∷ xs) = run_on (call_on c x).connection xs

abbrev pub replies : Connection → List CallImage → List Reply
replies c [] = []
replies c (x ∷ xs) = (call_on c x).reply ∷ replies (call_on c x).connection xs

-- ---- the same calls on the state table
-- what it says, as numbers
abbrev pub reply_on : Table → CallImage → Reply
reply_on t x = reply_of (said_by (step_on t x))

-- what it leaves: a refused call changes nothing
abbrev pub left_on : Table → CallImage → Table
left_on t x = left_by t (step_on t x)

abbrev pub replies_t : Table → List CallImage → List Reply
replies_t t [] = []
replies_t t (x ∷ xs) = reply_on t x ∷ replies_t (left_on t x) xs

-- ---- the calls that name what the state table knows: each but those whose kind names no request, or whose outcome names none
abbrev pub named_by : CallImage → List Call
named_by (C.arrive r) = cond (is_request r.kind) (T.arrive (request_in r) ∷ []) []
named_by C.take = T.take ∷ []
named_by (C.report o) = cond (is_outcome o) (T.report (outcome_of o.number) ∷ []) []
named_by C.close = T.close ∷ []

abbrev pub named_in : List CallImage → List Call
named_in [] = []
named_in (x ∷ xs) = named_by x ++ named_in xs

-- the replies to these
abbrev pub named_replies : Connection → List CallImage → List Reply
named_replies c [] = []
named_replies c (x ∷ xs) = map (λ (y : Call). (call_on c x).reply) (named_by x) ++ named_replies (call_on c x).connection xs

-- the answer of an event, as numbers
abbrev pub reply_in : Event → Reply
reply_in e = reply_of e.answer

-- ---- from the fresh record
pub record Crosses (calls : List CallImage) : Type 0 where
  -- every reply is the state table's
  pub answers : replies fresh calls ≡ replies_t start calls
  -- those to the named calls are the answers of the events, and the record left is the one that they leave: of both, Demand 3 is proved
  pub named : named_replies fresh calls ≡ map reply_in (events fresh (named_in calls))
  pub leaves : run_on fresh calls ≡ run fresh (named_in calls)

-- ---- the claim: of every record and call, and of every list of calls
pub record Claim : Type 0 where
  pub faithful : Faithful
  pub checked : (c : Connection) (call : CallImage) → Checked c call
  pub crosses : (calls : List CallImage) → Crosses calls
