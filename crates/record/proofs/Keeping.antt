-- What is kept of a record, and a record that holds what a table keeps: `kept` and `put`. Assumes nothing.
use mathlib.Core.Path.{◌≡◌, refl, sym, ap, ◌∙◌}
use mathlib.Core.Bool.{true, cond, ◌&&◌}
use mathlib.Core.List.{List, [], ◌∷◌, map}
use Prim.Native.Nat.{ℕ, zero, suc, ◌+◌, ◌-◌, ◌<◌, ◌≤◌}
use native.Mathlib.Omega.{arith}
use lib.Dec.{eqb, ltb, leb}
use lib.ListN.{length, length-append, length-map, take}
use lib.Seq.{sets}
use borrow.Author.Tests.{leb-true, ltb-true}
use Rattle.refusal.specs.Answer.{returned}
use Rattle.states.specs.declared.state.State.{State}
use Rattle.states.specs.declared.state.State.TheVariants.{Defunct}
use Rattle.states.specs.declared.request.Request.{Request}
use Rattle.states.specs.declared.answers.Summary.{Summary}
use Rattle.states.specs.Requests.{rank}
use Rattle.states.specs.Table.{Open, Table, queued, idle, answered, defunct, enqueued, number_after, answer}
use Rattle.std.proofs.lemmas.Bool.{and_parts}
use Rattle.states.proofs.Lists.{sets-own}
use Rattle.record.specs.declared.record.Control.{Control}
use Rattle.record.specs.declared.record.Connection.{Connection}
use Rattle.record.specs.declared.record.Queue.{Queue}
use Rattle.record.specs.Names.{is_state}
use Rattle.record.specs.Ring.{place, behind, lined, place_at, request_in}
use Rattle.record.specs.Record.{joined, state_in, is_in_flight, open_in, waiting_in, kept, bounded}
use Rattle.record.specs.Calls.{put, holding, storing, nowhere, carried}
use Rattle.record.proofs.Numbers.{rank-of-state}
use Rattle.record.proofs.Opened.{open-length}
use Rattle.record.proofs.Places.{length-lined}

-- ---- the bounds, one by one
pub record Bounds (k : Control) : Type 0 where
  pub state : k.state ≤ 7
  pub flight : k.in_flight ≤ 1
  pub first : k.first < 32
  pub few : k.waiting ≤ 32
  pub fewer : k.opened ≤ 8

pub bounds : (k : Control) → bounded k ≡ true → Bounds k
unfolding bounded
bounds k e =
    let state = is_state k.state in
    let flight = leb k.in_flight 1 in
    let first = ltb k.first 32 in
    let few = leb k.waiting 32 in
    let fewer = leb k.opened 8 in
    let e₁ = (and_parts state (flight && (first && (few && fewer))) e).1 in
    let e₂ = (and_parts flight (first && (few && fewer)) e₁).1 in
    let e₃ = (and_parts first (few && fewer) e₂).1 in
    record {
      state = leb-true k.state 7 ((and_parts state (flight && (first && (few && fewer))) e).0);
      flight = leb-true k.in_flight 1 ((and_parts flight (first && (few && fewer)) e₁).0);
      first = ltb-true k.first 32 ((and_parts first (few && fewer) e₂).0);
      few = leb-true k.waiting 32 ((and_parts few fewer e₃).0);
      fewer = leb-true k.opened 8 ((and_parts few fewer e₃).1);
    }

-- ---- numbers that stand for what they are read as
flight-number : (n : ℕ) → n ≤ 1 → cond (eqb n 1) 1 0 ≡ n
flight-number zero h = refl
flight-number (suc zero) h = refl
flight-number (suc (suc n)) h = absurd (omega (arith, h))

pub stays : (first sent : ℕ) → first < 32 → place first (sent - sent) ≡ first
stays first sent h = omega (arith, h)

pub moves-on : (first sent : ℕ) → place first (sent + 1 - sent) ≡ behind first
moves-on first sent = omega arith

first_of : {A : Type 0} (g : ℕ → A) (at w : ℕ) → 0 < w → lined g at w ≡ g at ∷ lined g (behind at) (w - 1)
first_of g at zero h = absurd (omega (arith, h))
first_of g at (suc w) h = ap (λ (n : ℕ). g at ∷ lined g (behind at) n) (less w)
  where
    less : (w : ℕ) → w ≡ suc w - 1
    less w = omega arith

module _ (k : Control) (streams : List ℕ) (queue : Queue) where
  -- the requests that wait behind the first
  abbrev pub behind_first : List Request
  behind_first = map request_in (lined (place_at queue) (behind k.first) (k.waiting - 1))

  abbrev pub first_in : Request
  first_in = request_in (place_at queue k.first)

  pub size : length (waiting_in k queue) ≡ k.waiting
  size = length-map (lined (place_at queue) k.first k.waiting) request_in ∙ length-lined (place_at queue) k.first k.waiting

  pub behind-size : length behind_first ≡ k.waiting - 1
  behind-size = length-map (lined (place_at queue) (behind k.first) (k.waiting - 1)) request_in ∙ length-lined (place_at queue) (behind k.first) (k.waiting - 1)

  pub first-waits : 0 < k.waiting → waiting_in k queue ≡ first_in ∷ behind_first
  first-waits h = ap (map request_in) (first_of (place_at queue) k.first k.waiting h)

  abbrev c : Connection
  c = joined k streams queue

  module _ (b : Bounds k) (long : length streams ≡ 8) where
    state-own : rank (state_in k) ≡ k.state
    state-own = rank-of-state k.state b.state

    flight-own : cond (is_in_flight k) 1 0 ≡ k.in_flight
    flight-own = flight-number k.in_flight b.flight

    first-own : place k.first (k.sent - k.sent) ≡ k.first
    first-own = stays k.first k.sent b.first

    pub opened-own : length (take k.opened streams) ≡ k.opened
    opened-own = open-length streams long k.opened b.fewer

    pub streams-own : sets streams 0 (take k.opened streams) ≡ streams
    streams-own = let n = b.fewer in sets-own streams k.opened (omega arith)

    -- a record holds what is kept of it
    pub put-own : put c (kept c) ≡ c
    put-own = λ i. record {
      control = record {
        state = state-own i;
        in_flight = flight-own i;
        first = first-own i;
        waiting = size i;
        opened = opened-own i;
        next = k.next;
        accepted = k.accepted;
        sent = k.sent;
      };
      streams = streams-own i;
      queue = queue;
    }

    -- nothing changes
    pub idles : record { connection = c; answer = returned idle } ≡ carried nowhere c (returned (record { table = kept c; said = idle }))
    idles = ap (λ (x : Connection). record { connection = x; answer = returned idle }) (sym put-own)

    -- ---- the first is answered, and ws wait; o are open
    pub put-answered : (s : State) (o : Open) (after : List ℕ) (ws : List Request) (summary : Summary) {opened next left : ℕ}
        → opened ≡ length o.numbers → next ≡ o.next → after ≡ sets streams 0 o.numbers → left ≡ length ws
        → record {
          connection = joined (record { state = rank s; in_flight = 0; first = behind k.first; waiting = left; opened = opened; next = next; accepted = k.accepted; sent = k.sent + 1 }) after queue;
          answer = returned (answered summary (number_after k.sent));
        }
        ≡ carried nowhere c (returned (answer (kept c) s o ws summary))
    put-answered s o after ws summary p q e g = λ i. record {
      connection = record {
        control = record {
          state = rank s;
          in_flight = 0;
          first = sym (moves-on k.first k.sent) i;
          waiting = g i;
          opened = p i;
          next = q i;
          accepted = k.accepted;
          sent = k.sent + 1;
        };
        streams = e i;
        queue = queue;
      };
      answer = returned (answered summary (number_after k.sent));
    }

    -- ---- the first is in flight
    pub put-handed : joined (record { state = k.state; in_flight = 1; first = k.first; waiting = k.waiting; opened = k.opened; next = k.next; accepted = k.accepted; sent = k.sent }) streams queue
        ≡ put c (record { state = state_in k; waiting = waiting_in k queue; in_flight = true; streams = open_in k streams; accepted = k.accepted; sent = k.sent })
    put-handed = λ i. record {
      control = record {
        state = sym state-own i;
        in_flight = 1;
        first = sym first-own i;
        waiting = sym size i;
        opened = sym opened-own i;
        next = k.next;
        accepted = k.accepted;
        sent = k.sent;
      };
      streams = sym streams-own i;
      queue = queue;
    }

    -- ---- the connection is closed, with so many accepted
    pub put-defunct : (t : Table) → t.streams.next ≡ k.next → t.sent ≡ k.sent
        → joined (record { state = rank Defunct; in_flight = 0; first = k.first; waiting = 0; opened = 0; next = k.next; accepted = t.accepted; sent = k.sent }) streams queue ≡ put c (defunct t)
    put-defunct t p q = λ i. record {
      control = record {
        state = rank Defunct;
        in_flight = 0;
        first = sym (ap (λ (n : ℕ). place k.first (n - k.sent)) q ∙ first-own) i;
        waiting = 0;
        opened = 0;
        next = sym p i;
        accepted = t.accepted;
        sent = sym q i;
      };
      streams = streams;
      queue = queue;
    }

    -- ---- one more waits: its numbers are stored, and o are open
    pub put-enqueued : (s : State) (o : Open) (r : Request) {opened next : ℕ} → opened ≡ length o.numbers → next ≡ o.next → streams ≡ sets streams 0 o.numbers
        → record {
          connection = joined (record { state = rank s; in_flight = k.in_flight; first = k.first; waiting = k.waiting + 1; opened = opened; next = next; accepted = k.accepted + 1; sent = k.sent }) streams
              (holding r (place k.first k.waiting) queue);
          answer = returned queued;
        }
        ≡ carried (storing r) c (returned (record { table = enqueued (kept c) s o r; said = queued }))
    put-enqueued s o r p q e = λ i. record {
      connection = record {
        control = record {
          state = rank s;
          in_flight = sym flight-own i;
          first = sym first-own i;
          waiting = sym (length-append (waiting_in k queue) (r ∷ []) ∙ ap (λ (n : ℕ). n + 1) size) i;
          opened = p i;
          next = q i;
          accepted = k.accepted + 1;
          sent = k.sent;
        };
        streams = e i;
        queue = holding r (place k.first k.waiting) queue;
      };
      answer = returned queued;
    }
