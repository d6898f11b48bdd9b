-- Lists of calls on one record, each on the record as the one before it left it. Assumes nothing.
use Rattle.std.specs.Prelude.{List, [], ◌∷◌}
use Rattle.record.specs.declared.record.Connection.{Connection}
use Rattle.states.specs.Table as T
use Rattle.states.specs.Table.{Call}
use Rattle.states.specs.Events.{Event}
use Rattle.record.specs.Record.{kept}
use Rattle.record.specs.Calls.{After, arrive_of, take_of, report_of, close_of}

-- a call on a record: the definition that the contracts of the call's functions cite
abbrev pub call_of : Connection → Call → After
call_of c (T.arrive r) = arrive_of c r
call_of c T.take = take_of c
call_of c (T.report o) = report_of c o
call_of c T.close = close_of c

abbrev pub run : Connection → List Call → Connection
run c [] = c
run c (x ∷ xs) = run (call_of c x).connection xs

-- what is seen of each call: what is kept before it, the waiting requests in order among it, the call, and its answer
abbrev pub events : Connection → List Call → List Event
events c [] = []
events c (x ∷ xs) = record { before = kept c; call = x; answer = (call_of c x).answer } ∷ events (call_of c x).connection xs
