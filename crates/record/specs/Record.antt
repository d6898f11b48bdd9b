-- The record: what of it the state table keeps, and its standing rules. Document 01, "Connection record"; document 02, request 9.
-- Assumes nothing.
use Rattle.std.specs.Prelude.{ℕ, Bool, not, ◌&&◌, List, map, eqb, ltb, leb, pos, take, replicate}
use Rattle.states.specs.declared.state.State.{State}
use Rattle.states.specs.declared.request.Request.{Request}
use Rattle.states.specs.Requests.{any}
use Rattle.states.specs.Table.{Open, Table}
use Rattle.states.specs.Rules.{rules}
use Rattle.record.specs.declared.record.Control.{Control}
use Rattle.record.specs.declared.record.Connection.{Connection}
use Rattle.record.specs.declared.record.Queue.{Queue}
use Rattle.record.specs.Names.{state_of, is_state}
use Rattle.record.specs.Ring.{Place, lined, place_at, request_in, unnamed}

-- a record of its parts
abbrev pub joined : Control → List ℕ → Queue → Connection
joined k streams queue = record { control = k; streams = streams; queue = queue }

-- ---- what the table keeps of a record
abbrev pub state_in : Control → State
state_in k = state_of k.state

abbrev pub is_in_flight : Control → Bool
is_in_flight k = eqb k.in_flight 1

-- the first `opened` numbers are open
abbrev pub open_of : List ℕ → ℕ → ℕ → Open
open_of streams opened next = record { numbers = take opened streams; next = next }

abbrev pub open_in : Control → List ℕ → Open
open_in k streams = open_of streams k.opened k.next

-- the places in which requests wait, in order, and these requests
abbrev pub places_in : Control → Queue → List Place
places_in k queue = lined (place_at queue) k.first k.waiting

abbrev pub waiting_in : Control → Queue → List Request
waiting_in k queue = map request_in (places_in k queue)

abbrev pub kept : Connection → Table
kept c = record {
  state = state_in c.control;
  waiting = waiting_in c.control c.queue;
  in_flight = is_in_flight c.control;
  streams = open_in c.control c.streams;
  accepted = c.control.accepted;
  sent = c.control.sent;
}

-- ---- the standing rules
-- "the ring's own bounds", and those of the other numbers: the control names a state and a truth value, and at most 8 are open
unfoldable pub bounded : Control → Bool
bounded k = is_state k.state && (leb k.in_flight 1 && (ltb k.first 32 && (leb k.waiting 32 && leb k.opened 8)))

-- every place in which a request waits names one
unfoldable pub named : Connection → Bool
named c = not (any unnamed (places_in c.control c.queue))

-- and what is kept has document 01's rules
unfoldable pub keeps_rules : Connection → Bool
keeps_rules c = bounded c.control && (named c && rules (kept c))

-- ---- a fresh record: CONNECTED, with nothing counted, waiting or open, and next number 0
abbrev pub fresh : Connection
fresh = record {
  control = record { state = 0; in_flight = 0; first = 0; waiting = 0; opened = 0; next = 0; accepted = 0; sent = 0 };
  streams = replicate 8 0;
  queue = record { kinds = replicate 32 0; counts = replicate 32 (pos 0); qids = replicate 32 (pos 0) };
}
