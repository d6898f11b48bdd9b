-- What holds of every list of calls on the state table from a fresh record: demand 3 of document 01, but for the record. Proved in
-- proofs/Counting.antt. Assumes nothing.
use Rattle.std.specs.Prelude.{◌≡◌, ◌+◌, ◌≤◌, true, false, List, length, take}
use Rattle.states.specs.declared.state.State.TheVariants.{Defunct}
use Rattle.states.specs.Requests.{in_state, any}
use Rattle.states.specs.Table.{Call, start}
use Rattle.states.specs.Rules.{rules}
use Rattle.states.specs.Events.{run_t, events_t, requests, numbered, looked_up, rising, handed_over, summaries, wrongly_handed}

pub record TableClaim (calls : List Call) : Type 0 where
  -- the standing rules hold
  pub standing : rules (run_t start calls) ≡ true
  -- accepted is the count of the arrive calls not refused
  pub accepted : (run_t start calls).accepted ≡ length (requests (events_t start calls))
  -- sent is the count of the summaries handed back
  pub sent : (run_t start calls).sent ≡ length (summaries (events_t start calls))
  -- outside DEFUNCT accepted = sent + waiting
  pub sum : in_state (run_t start calls).state Defunct ≡ false → (run_t start calls).accepted ≡ (run_t start calls).sent + length (run_t start calls).waiting
  -- in DEFUNCT, as in any state, sent is at most accepted
  pub most : (run_t start calls).sent ≤ (run_t start calls).accepted
  -- the k-th summary has number k and answers the k-th accepted request
  pub kth : summaries (events_t start calls) ≡ numbered 1 (take (length (summaries (events_t start calls))) (requests (events_t start calls)))
  -- each request handed over with number n is the n-th accepted request
  pub handed : handed_over (events_t start calls) ≡ looked_up (requests (events_t start calls)) (handed_over (events_t start calls))
  -- and none is handed over twice
  pub once : rising 0 (handed_over (events_t start calls)) ≡ true
  -- no request whose turn comes in FAILED or INTERRUPTED is handed over
  pub never : any wrongly_handed (events_t start calls) ≡ false

abbrev pub Claim : Type 0
Claim = (calls : List Call) → TableClaim calls
