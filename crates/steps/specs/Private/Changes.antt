-- What the private functions leave of a control and of the open numbers, and when they are called. Cited only by private contracts.
-- Assumes nothing.
use Rattle.std.specs.Prelude.{ℕ, ◌+◌, ◌<◌, ◌≤◌, ◌≡◌, true, List, Result, length}
use Rattle.std.proofs.lemmas.List.Edits.{sets}
use Rattle.states.specs.declared.state.State.{State}
use Rattle.states.specs.declared.state.State.TheVariants.{Defunct}
use Rattle.states.specs.declared.request.Request.{Request}
use Rattle.states.specs.declared.answers.Arrival.{Arrival}
use Rattle.states.specs.Answers.{told_arrival}
use Rattle.states.specs.Requests.{rank}
use Rattle.refusal.specs.declared.Refusal.{Refusal}
use Rattle.refusal.specs.Answer.{returned}
use Rattle.states.specs.Table.{Open, accept}
use Rattle.states.specs.Rules.{may_be_in_flight}
use Rattle.record.specs.declared.record.Control.{Control}
use Rattle.record.specs.declared.record.Queue.{Queue}
use Rattle.record.specs.Ring.{behind}
use Rattle.record.specs.Record.{joined, kept, bounded, state_in, open_in}
use Rattle.record.specs.Calls.{storing, carried}
use Rattle.steps.specs.Steps.{told_after}
use Rattle.steps.specs.declared.streams.Opened.{Opened}
use Rattle.steps.specs.declared.after.After.{After}

-- a request can be accepted
pub record Accepting (k : Control) : Type 0 where
  pub bounds : bounded k ≡ true
  pub short : k.waiting < 32
  pub below : k.accepted < 4294967295

-- it is accepted, whatever the streams, which it leaves
pub record Accepts (k : Control) (r : Request) (before after : Queue) (a : After (Result Arrival Refusal)) : Type 0 where
  pub whatever : (streams : List ℕ) → length streams ≡ 8
      → told_after told_arrival a streams after ≡ carried (storing r) (joined k streams before) (returned (accept (kept (joined k streams before)) r))

-- a request waits, and can be answered
pub record Answering (k : Control) : Type 0 where
  pub bounds : bounded k ≡ true
  pub some : 0 < k.waiting
  pub below : k.sent < 4294967295

-- a request is in flight, and can be reported on
pub record Reporting (k : Control) (streams : List ℕ) (r : Request) : Type 0 where
  pub waits : Answering k
  pub long : length streams ≡ 8
  pub next : k.next ≤ 65536
  pub flies : may_be_in_flight (state_in k) (open_in k streams) r ≡ true

abbrev pub defunct_in : Control → Control
defunct_in k = record { state = rank Defunct; in_flight = 0; first = k.first; waiting = 0; opened = 0; next = k.next; accepted = k.accepted; sent = k.sent }

-- one request more is accepted
abbrev pub counted_in : Control → State → ℕ → Control
counted_in k s opened = record {
  state = rank s;
  in_flight = k.in_flight;
  first = k.first;
  waiting = k.waiting + 1;
  opened = opened;
  next = k.next;
  accepted = k.accepted + 1;
  sent = k.sent;
}

-- the first is answered, and `left` wait
abbrev pub answered_in : Control → State → ℕ → ℕ → ℕ → Control
answered_in k s opened next left = record {
  state = rank s;
  in_flight = 0;
  first = behind k.first;
  waiting = left;
  opened = opened;
  next = next;
  accepted = k.accepted;
  sent = k.sent + 1;
}

-- the first is in flight
abbrev pub handed_in : Control → Control
handed_in k = record {
  state = k.state;
  in_flight = 1;
  first = k.first;
  waiting = k.waiting;
  opened = k.opened;
  next = k.next;
  accepted = k.accepted;
  sent = k.sent;
}

-- the numbers o are open, at the front of the array that was `before`
pub record Laid (o : Open) (before after : List ℕ) (r : Opened) : Type 0 where
  pub count : r.count ≡ length o.numbers
  pub next : r.next ≡ o.next
  pub numbers : after ≡ sets before 0 o.numbers
