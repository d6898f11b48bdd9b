-- Serving a request: document 01, "Bench trial program": "every report is plain success. After each frame it takes and reports until idle or
-- closed". Assumes nothing.
use Rattle.std.specs.Prelude.{ℕ, zero, suc, cond, List, [], ◌∷◌, Result, Ok, Err}
use Rattle.refusal.specs.Answer.{Answer, returned, refused, closes_after}
use Rattle.refusal.specs.Numbers.{number_of}
use Rattle.refusal.specs.declared.Refusal.{Refusal}
use Rattle.record.specs.declared.record.Connection.{Connection}
use Rattle.states.specs.declared.request.Request.{Request}
use Rattle.states.specs.declared.answers.Outcome.TheVariants.{Success}
use Rattle.states.specs.declared.answers.Summary.{Summary}
use Rattle.states.specs.Table as T
use Rattle.states.specs.Table.{Said}
use Rattle.record.specs.Calls.{After, arrive_of, take_of, report_of, close_of}
use Rattle.serving.specs.declared.Ending.{Ending}
use Rattle.serving.specs.declared.Ending.TheVariants as E

-- nothing is left to do until the next request, the connection has closed, or a call was refused with this number
pub data End : Type 0 where
  idle : End
  closed : End
  refusal : ℕ → End

-- the summaries sent, why there are no more, and the record then
pub record Serving : Type 0 where
  pub summaries : List Summary
  pub end : End
  pub connection : Connection

-- nothing more is sent
abbrev pub stopped : End → Connection → Serving
stopped end c = record { summaries = []; end = end; connection = c }

-- a summary before all others
abbrev pub sending : Summary → Serving → Serving
sending s later = record { summaries = s ∷ later.summaries; end = later.end; connection = later.connection }

-- "The caller closes after" some refusals, and leaves the record after the others
unfoldable pub after_refusal : ℕ → Connection → Connection
after_refusal number c = cond (closes_after number) (close_of c).connection c

-- a refusal ends the run
abbrev pub refusing : ℕ → Connection → Serving
refusing number c = stopped (refusal number) (after_refusal number c)

-- what is handed to the engine succeeds at once
abbrev pub succeeding : Answer Said → After → After
succeeding (returned (T.handed r number)) a = report_of a.connection Success
succeeding (returned T.queued) a = a
succeeding (returned T.closed) a = a
succeeding (returned T.idle) a = a
succeeding (returned (T.answered summary number)) a = a
succeeding (refused number place) a = a

-- a request's turn: take and, where it is handed over, report
unfoldable pub turn_of : Connection → After
turn_of c = succeeding (take_of c).answer (take_of c)

-- what follows an answer: after an arrival and a summary the next turn, else nothing until the next request, or the run's end
abbrev pub following : Answer Said → Connection → Serving → Serving
following (returned T.queued) c later = later
following (returned (T.answered summary number)) c later = sending summary later
following (returned T.idle) c later = stopped idle c
following (returned (T.handed r number)) c later = stopped idle c
following (returned T.closed) c later = stopped closed c
following (refused number place) c later = refusing number c

abbrev pub followed : After → Serving → Serving
followed a later = following a.answer a.connection later

-- so many turns
unfoldable pub serving : ℕ → Connection → Serving
serving zero c = stopped idle c
serving (suc n) c = followed (turn_of c) (serving n (turn_of c).connection)

-- 32 requests wait at most, and then it is idle: the turns never run out before (Idle.antt)
abbrev pub turns : ℕ
turns = 33

-- a request arrives, and is served with all that waited before it
unfoldable pub served : Connection → Request → Serving
served c r = followed (arrive_of c r) (serving turns (arrive_of c r).connection)

-- ---- what the code answers, in these terms
abbrev pub end_of : Result Ending Refusal → End
end_of (Ok E.Idle) = idle
end_of (Ok E.Closed) = closed
end_of (Err why) = refusal (number_of why)
