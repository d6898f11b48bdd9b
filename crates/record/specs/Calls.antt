-- The four calls on a record: what the state table says of what is kept of it, put into the record. Document 01, "Connection record"; document
-- 02, request 9. Assumes nothing.
use Rattle.std.specs.Prelude.{ℕ, ◌-◌, cond, length, set}
use Rattle.std.proofs.lemmas.List.Edits.{sets}
use Rattle.refusal.specs.Answer.{Answer, returned, refused}
use Rattle.bolt.specs.Requests.{tag}
use Rattle.states.specs.declared.request.Request.{Request}
use Rattle.states.specs.declared.answers.Outcome.{Outcome}
use Rattle.states.specs.Requests.{kind_of, rank}
use Rattle.states.specs.Table as T
use Rattle.states.specs.Table.{Table, Said, Done}
use Rattle.record.specs.declared.record.Control.{Control}
use Rattle.record.specs.declared.record.Connection.{Connection}
use Rattle.record.specs.declared.record.Queue.{Queue}
use Rattle.record.specs.Names.{count_of, qid_of}
use Rattle.record.specs.Ring.{place}
use Rattle.record.specs.Record.{joined, kept, keeps_rules}

-- ---- a record that holds what a table keeps
-- the first place moves on by one with each summary
abbrev pub control_of : Control → Table → Control
control_of k t = record {
  state = rank t.state;
  in_flight = cond t.in_flight 1 0;
  first = place k.first (t.sent - k.sent);
  waiting = length t.waiting;
  opened = length t.streams.numbers;
  next = t.streams.next;
  accepted = t.accepted;
  sent = t.sent;
}

-- the open numbers stand at the front of theirs; the queue stays
abbrev pub put : Connection → Table → Connection
put c t = joined (control_of c.control t) (sets c.streams 0 t.streams.numbers) c.queue

-- a request's three numbers, in a place of the queue
abbrev pub holding : Request → ℕ → Queue → Queue
holding r at queue = record { kinds = set queue.kinds at (tag (kind_of r)); counts = set queue.counts at (count_of r); qids = set queue.qids at (qid_of r) }

-- in the place behind the last one that waits
abbrev pub stored : Request → Connection → Connection
stored r c = joined c.control c.streams (holding r (place c.control.first c.control.waiting) c.queue)

-- ---- a call on a record
-- the record after a call, and what the call answers
pub record After : Type 0 where
  pub connection : Connection
  pub answer : Answer Said

-- where the queue is written: a request that is queued is stored, and nothing else is
abbrev pub Storing : Type 0
Storing = Said → Connection → Connection

abbrev pub storing : Request → Storing
storing r T.queued c = stored r c
storing r T.closed c = c
storing r T.idle c = c
storing r (T.handed q number) c = c
storing r (T.answered summary number) c = c

abbrev pub nowhere : Storing
nowhere said c = c

-- what the table says, put into the record; a refusal leaves the record as it is
abbrev pub carried : Storing → Connection → Answer Done → After
carried f c (returned d) = record { connection = put (f d.said c) d.table; answer = returned d.said }
carried f c (refused number place) = record { connection = c; answer = refused number place }

-- 24 where the record breaks a standing rule, before anything else
abbrev pub called : Storing → Connection → Answer Done → After
called f c a = cond (keeps_rules c) (carried f c a) (record { connection = c; answer = refused 24 0 })

abbrev pub arrive_of : Connection → Request → After
arrive_of c r = called (storing r) c (T.arrive_t (kept c) r)

abbrev pub take_of : Connection → After
take_of c = called nowhere c (T.take_t (kept c))

abbrev pub report_of : Connection → Outcome → After
report_of c o = called nowhere c (T.report_t (kept c) o)

abbrev pub close_of : Connection → After
close_of c = called nowhere c (T.close_t (kept c))
