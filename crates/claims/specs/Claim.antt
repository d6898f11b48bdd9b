-- Demand 3 of document 01, and document 02, request 9: what holds of every list of arrive, take, report and close calls on one record; and
-- beside it when a call gives 24. Proved in proofs/Demand3.antt. Assumes nothing.
use Rattle.std.specs.Prelude.{◌≡◌, ◌+◌, ◌≤◌, true, false, List, length, take}
use Rattle.refusal.specs.Answer.{refused}
use Rattle.states.specs.declared.state.State.TheVariants.{Defunct}
use Rattle.states.specs.Requests.{in_state, any}
use Rattle.states.specs.Table.{Call, start}
use Rattle.states.specs.Events.{run_t, events_t, requests, numbered, looked_up, rising, handed_over, summaries, wrongly_handed}
use Rattle.record.specs.declared.record.Connection.{Connection}
use Rattle.record.specs.Record.{state_in, places_in, kept, keeps_rules, fresh}
use Rattle.claims.specs.Calls.{call_of, run, events}

-- ---- from the fresh record
pub record Demand3 (calls : List Call) : Type 0 where
  -- every answer and every refusal, number and place, is the state table's, and before each call the record keeps what the table keeps:
  -- state, the waiting list in order, read out of the ring, in flight, open streams, next number, accepted and sent
  pub answers : events fresh calls ≡ events_t start calls
  -- and so it does at the end
  pub keeps : kept (run fresh calls) ≡ run_t start calls
  -- the standing rules hold
  pub standing : keeps_rules (run fresh calls) ≡ true
  -- accepted is the count of the arrive calls not refused
  pub accepted : (run fresh calls).control.accepted ≡ length (requests (events fresh calls))
  -- sent is the count of the summaries handed back
  pub sent : (run fresh calls).control.sent ≡ length (summaries (events fresh calls))
  -- outside DEFUNCT accepted = sent + waiting
  pub sum : in_state (state_in (run fresh calls).control) Defunct ≡ false
      → (run fresh calls).control.accepted ≡ (run fresh calls).control.sent + (run fresh calls).control.waiting
  -- in DEFUNCT, as in any state, sent is at most accepted
  pub most : (run fresh calls).control.sent ≤ (run fresh calls).control.accepted
  -- the k-th summary has number k and answers the k-th accepted request
  pub kth : summaries (events fresh calls) ≡ numbered 1 (take (length (summaries (events fresh calls))) (requests (events fresh calls)))
  -- each request handed over with number n is the n-th accepted request
  pub handed : handed_over (events fresh calls) ≡ looked_up (requests (events fresh calls)) (handed_over (events fresh calls))
  -- and none is handed over twice
  pub once : rising 0 (handed_over (events fresh calls)) ≡ true
  -- no request whose turn comes in FAILED or INTERRUPTED is handed over
  pub never : any wrongly_handed (events fresh calls) ≡ false

-- ---- of any record and any call: 24 exactly where the record handed in breaks a standing rule, and then nothing changes
pub record Checked (c : Connection) (call : Call) : Type 0 where
  pub broken : keeps_rules c ≡ false → call_of c call ≡ record { connection = c; answer = refused 24 0 }
  pub only : (call_of c call).answer ≡ refused 24 0 → keeps_rules c ≡ false

-- ---- what unused places hold
-- arrays as long as their types say
pub record Sized (c : Connection) : Type 0 where
  pub streams : length c.streams ≡ 8
  pub kinds : length c.queue.kinds ≡ 32
  pub counts : length c.queue.counts ≡ 32
  pub qids : length c.queue.qids ≡ 32

-- two records that differ at most in places in which no request waits, and in numbers of streams that are not open
pub record Alike (c d : Connection) : Type 0 where
  pub control : c.control ≡ d.control
  pub streams : take c.control.opened c.streams ≡ take d.control.opened d.streams
  pub places : places_in c.control c.queue ≡ places_in d.control d.queue

-- affects no answer, and nothing that is kept
pub record Unused (c d : Connection) (calls : List Call) : Type 0 where
  pub answers : events c calls ≡ events d calls
  pub keeps : kept (run c calls) ≡ kept (run d calls)

-- ---- the claim
pub record Claim : Type 0 where
  pub demand3 : (calls : List Call) → Demand3 calls
  pub checked : (c : Connection) (call : Call) → Checked c call
  pub unused : (c d : Connection) → Sized c → Sized d → Alike c d → (calls : List Call) → Unused c d calls
