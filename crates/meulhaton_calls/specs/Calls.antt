-- The calls on a connection record in numbers: document 01, "Connection record" and "Refusal numbers". Assumes nothing.
use Rattle.std.specs.Prelude.{ℕ, Bool, cond, List, eqb, leb, pos}
use Rattle.refusal.specs.Answer.{Answer, refused}
use Rattle.states.specs.declared.request.Request.{Request}
use Rattle.states.specs.declared.request.Request.TheVariants.{Pull}
use Rattle.states.specs.declared.answers.Outcome.{Outcome}
use Rattle.states.specs.declared.answers.Outcome.TheVariants.{Success, More, Failure}
use Rattle.states.specs.Table.{Table, Done, unless_defunct, arrive_t, take_t, report_t, close_t}
use Rattle.record.specs.declared.record.Connection.{Connection}
use Rattle.record.specs.Names.{request_of, is_request}
use Rattle.record.specs.Record.{joined, kept}
use Rattle.record.specs.Calls.{After, Storing, storing, nowhere, called}
use Rattle.meulhaton_fields.specs.declared.request.RequestImage.{RequestImage}
use Rattle.meulhaton_calls.specs.declared.arguments.OutcomeImage.{OutcomeImage}
use Rattle.meulhaton_calls.specs.declared.replies.Reply.{Reply}
use Rattle.record.specs.declared.record.Queue.{Queue}
use Rattle.steps.specs.declared.after.After.{After as Stepped}
use Rattle.meulhaton_calls.specs.Replies.{reply_of}

-- ---- what the arguments name
-- the request of a kind, with its numbers
abbrev pub request_in : RequestImage → Request
request_in r = request_of r.kind r.n r.qid

-- what `arrive` is given: where the kind names no request, a PULL of no records, which is refused with the number that is due, 27
abbrev pub arriving : RequestImage → Request
arriving r = cond (is_request r.kind) (request_in r) (Pull (pos 0) (pos 0))

-- success, success with more, failure; any other number is taken for the last
abbrev pub outcome_of : ℕ → Outcome
outcome_of n = cond (eqb n 0) Success (cond (eqb n 1) More Failure)

-- there are three
abbrev pub is_outcome : OutcomeImage → Bool
is_outcome o = leb o.number 2

-- ---- the calls
-- what a caller can pass: any kind and any outcome, whether it names something or not
pub data CallImage : Type 0 where
  arrive : RequestImage → CallImage
  take : CallImage
  report : OutcomeImage → CallImage
  close : CallImage

-- "Order for calls: 24, 18, then 16, 20, 17 (arrive) or 19 (report)", with 27 for 16: a kind that names no request is 27, an outcome that names
-- none 19
abbrev pub step_on : Table → CallImage → Answer Done
step_on t (arrive r) = cond (is_request r.kind) (arrive_t t (request_in r)) (unless_defunct t (refused 27 0))
step_on t take = take_t t
step_on t (report o) = cond (is_outcome o) (report_t t (outcome_of o.number)) (unless_defunct t (refused 19 0))
step_on t close = close_t t

-- where a call stores
abbrev pub stores_of : CallImage → Storing
stores_of (arrive r) = storing (request_in r)
stores_of take = nowhere
stores_of (report o) = nowhere
stores_of close = nowhere

-- ---- a call on a record
-- the record after a call, and its reply
pub record ReplyAfter : Type 0 where
  pub connection : Connection
  pub reply : Reply

abbrev pub in_numbers : After → ReplyAfter
in_numbers a = record { connection = a.connection; reply = reply_of a.answer }

-- 24 where the record breaks a standing rule; else what the table says, put into the record
unfoldable pub call_on : Connection → CallImage → ReplyAfter
call_on c x = in_numbers (called (stores_of x) c (step_on (kept c) x))

-- ---- a report whose outcome names none
abbrev pub unnamed_of : Connection → ReplyAfter
unnamed_of c = in_numbers (called nowhere c (unless_defunct (kept c) (refused 19 0)))

-- what it returns on the parts of a record, with the streams and the queue after it
abbrev pub told_reply : Stepped Reply → List ℕ → Queue → ReplyAfter
told_reply r streams queue = record { connection = joined r.control streams queue; reply = r.answer }
