-- What arrive, take and close leave of a record, and answer, is what their calls say. Assumes nothing.
use mathlib.Core.Path.{◌≡◌, refl, sym, ap, ◌∙◌}
use mathlib.Core.Bool.{Bool, true, false, cond}
use mathlib.Core.List.{List, map}
use Prim.Native.Nat.{ℕ, ◌-◌, ◌+◌, ◌<◌, ◌≤◌}
use lib.Dec.{leb}
use lib.ListN.{length}
use borrow.Author.Tests.{eq-eqb, ne_eqb, le-leb, lt-leb}
use Rattle.refusal.specs.Answer.{Answer, returned, refused}
use Rattle.bolt.specs.Requests.{RESET}
use Rattle.states.specs.declared.state.State.{State}
use Rattle.states.specs.declared.state.State.TheVariants.{Connected, Ready, Failed, Interrupted}
use Rattle.states.specs.declared.request.Request.{Request}
use Rattle.states.specs.declared.answers.Failure.TheVariants.{StreamsFull, StreamUnknown}
use Rattle.states.specs.declared.answers.Summary.{Summary}
use Rattle.states.specs.declared.answers.Summary.TheVariants as S
use Rattle.states.specs.declared.turn.Turn.{Turn}
use Rattle.states.specs.declared.turn.Turn.TheVariants as U
use Rattle.states.specs.Requests.{in_state, in_range, is, any}
use Rattle.states.specs.Table.{Done, queued, closed, idle, handed, answered, none_open, defunct, enqueued, accept, number_after, answer, taken, take_first, turn_of}
use Rattle.record.specs.declared.record.Control.{Control}
use Rattle.record.specs.declared.record.Connection.{Connection}
use Rattle.record.specs.Ring.{place, behind, lined, kind_at, place_at, request_in, is_reset}
use Rattle.record.specs.Record.{joined, state_in, is_in_flight, open_in, waiting_in, kept}
use Rattle.record.specs.Calls.{After, holding, storing, nowhere, carried, arrive_of, take_of, close_of}
use Rattle.record.proofs.Keeping.{Bounds, bounds, behind_first, first_in, size, behind-size, first-waits, opened-own, streams-own, idles, put-answered, put-handed, put-defunct, put-enqueued}
use Rattle.record.proofs.Places.{resets-by-kind, resets-in-kinds}
use Rattle.record.proofs.Standing.{kept-bounds}
use Rattle.steps.specs.Opening.{opening_of}
use Rattle.steps.specs.Private.Changes.{Answering, Accepting, defunct_in, counted_in, answered_in, handed_in}
use Rattle.steps.proofs.Calls.{goes_on, found}

module _ (c : Connection) where
  abbrev k : Control
  k = c.control

  abbrev with : Control → Connection
  with x = joined x c.streams c.queue

  abbrev waiting : List Request
  waiting = waiting_in k c.queue

  -- ---- the call goes on
  module _ {s : State} (opens : returned s ≡ opening_of c) (long : length c.streams ≡ 8) where
    within : Bounds k
    within = kept-bounds c (found c opens).keeps

    -- the connection is closed
    pub ends : record { connection = with (defunct_in k); answer = returned closed } ≡ close_of c
    ends =
        ap (λ (x : Connection). record { connection = x; answer = returned closed }) (put-defunct k c.streams c.queue within long (kept c) refl refl)
        ∙ goes_on nowhere c (returned (record { table = defunct (kept c); said = closed })) opens

    -- by whether one is in flight
    abbrev taking : Bool → Answer Done
    taking b = returned (cond b (record { table = kept c; said = idle }) (take_first (kept c) waiting))

    by-flight : {b : Bool} → is_in_flight k ≡ b → carried nowhere c (taking b) ≡ take_of c
    by-flight p = ap (λ (b : Bool). carried nowhere c (taking b)) (sym p) ∙ goes_on nowhere c (taking (is_in_flight k)) opens

    pub stays-in-flight : k.in_flight ≡ 1 → record { connection = c; answer = returned idle } ≡ take_of c
    stays-in-flight e = idles k c.streams c.queue within long ∙ by-flight (eq-eqb k.in_flight 1 e)

    -- none is: the turn of the first
    pub comes-to-turn : (k.in_flight ≡ 1 → ⊥) → carried nowhere c (returned (take_first (kept c) waiting)) ≡ take_of c
    comes-to-turn e = by-flight (ne_eqb k.in_flight 1 e)

    -- and none waits
    pub stays-empty : (k.in_flight ≡ 1 → ⊥) → k.waiting ≡ 0 → record { connection = c; answer = returned idle } ≡ take_of c
    stays-empty e z =
        idles k c.streams c.queue within long
        ∙ ap (λ (n : ℕ). carried nowhere c (returned (take_first (kept c) (map request_in (lined (place_at c.queue) k.first n))))) (sym z)
        ∙ comes-to-turn e

    -- a request has come
    module _ (q : Request) where
      abbrev arriving : Bool → Bool → Bool → Answer Done
      arriving x v f = cond x (cond v (refused 20 0) (cond f (refused 17 0) (returned (accept (kept c) q)))) (refused 27 0)

      by-arrival : {x v f : Bool} → in_range q ≡ x → leb 4294967295 k.accepted ≡ v → leb 32 k.waiting ≡ f → carried (storing q) c (arriving x v f) ≡ arrive_of c q
      by-arrival e p u =
          sym (λ i. carried (storing q) c (arriving (e i) (p i) ((ap (leb 32) (size k c.streams c.queue) ∙ u) i)))
          ∙ goes_on (storing q) c (arriving (in_range q) (leb 4294967295 k.accepted) (leb 32 (length waiting))) opens

      pub out_of_range_lem : in_range q ≡ false → record { connection = c; answer = refused 27 0 } ≡ arrive_of c q
      out_of_range_lem e = by-arrival e refl refl

      module _ (e : in_range q ≡ true) where
        pub at-limit : 4294967295 ≤ k.accepted → record { connection = c; answer = refused 20 0 } ≡ arrive_of c q
        at-limit p = by-arrival e (le-leb 4294967295 k.accepted p) refl

        module _ (p : k.accepted < 4294967295) where
          pub queue-full : 32 ≤ k.waiting → record { connection = c; answer = refused 17 0 } ≡ arrive_of c q
          queue-full u = by-arrival e (lt-leb 4294967295 k.accepted p) (le-leb 32 k.waiting u)

          pub comes-in : k.waiting < 32 → carried (storing q) c (returned (accept (kept c) q)) ≡ arrive_of c q
          comes-in u = by-arrival e (lt-leb 4294967295 k.accepted p) (lt-leb 32 k.waiting u)

  -- ---- the turn of the first
  abbrev r : Request
  r = first_in k c.streams c.queue

  abbrev ws : List Request
  ws = behind_first k c.streams c.queue

  abbrev gives : Done → After
  gives d = carried nowhere c (returned d)

  abbrev took : After
  took = gives (take_first (kept c) waiting)

  module _ (may : Answering k) (long : length c.streams ≡ 8) {s : State} {q : Request} (state : s ≡ state_in k) (first : q ≡ r) where
    bound : Bounds k
    bound = bounds k may.bounds

    by_turn : {u : Turn} → u ≡ turn_of s (open_in k c.streams) q → gives (taken u (kept c) r ws) ≡ took
    by_turn e =
        ap gives
        (ap (λ (u : Turn). taken u (kept c) r ws) (e ∙ (λ i. turn_of (state i) (open_in k c.streams) (first i)))
        ∙ sym (ap (take_first (kept c)) (first-waits k c.streams c.queue may.some)))

    -- it closes
    pub turn-closes : U.Closes ≡ turn_of s (open_in k c.streams) q → record { connection = with (defunct_in k); answer = returned closed } ≡ took
    turn-closes u = ap (λ (x : Connection). record { connection = x; answer = returned closed }) (put-defunct k c.streams c.queue bound long (kept c) refl refl) ∙ by_turn u

    -- it is handed over
    pub turn-hands : U.Handed ≡ turn_of s (open_in k c.streams) q → record { connection = with (handed_in k); answer = returned (handed q (k.sent + 1)) } ≡ took
    turn-hands u = (λ i. record { connection = put-handed k c.streams c.queue bound long i; answer = returned (handed (first i) (k.sent + 1)) }) ∙ by_turn u

    -- it is answered
    abbrev told_of : State → ℕ → Summary → After
    told_of s opened m = record { connection = with (answered_in k s opened k.next (k.waiting - 1)); answer = returned (answered m (number_after k.sent)) }

    -- with no stream open
    clears : (s : State) (m : Summary) → told_of s 0 m ≡ gives (answer (kept c) s (none_open (open_in k c.streams)) ws m)
    clears s m = put-answered k c.streams c.queue bound long s (none_open (open_in k c.streams)) c.streams ws m refl refl refl (sym (behind-size k c.streams c.queue))

    pub turn-resets : U.Resets ≡ turn_of s (open_in k c.streams) q
        → told_of (cond (any is_reset (lined (kind_at c.queue.kinds) (behind k.first) (k.waiting - 1))) Interrupted Ready) 0 S.Success ≡ took
    turn-resets u =
        clears (cond (any is_reset (lined (kind_at c.queue.kinds) (behind k.first) (k.waiting - 1))) Interrupted Ready) S.Success
        ∙ ap (λ (b : Bool). gives (answer (kept c) (cond b Interrupted Ready) (none_open (open_in k c.streams)) ws S.Success))
        (sym (resets-by-kind (lined (place_at c.queue) (behind k.first) (k.waiting - 1)) ∙ resets-in-kinds c.queue (behind k.first) (k.waiting - 1)))
        ∙ by_turn u

    pub turn-full : U.Full ≡ turn_of s (open_in k c.streams) q → told_of Failed 0 (S.Failure StreamsFull) ≡ took
    turn-full u = clears Failed (S.Failure StreamsFull) ∙ by_turn u

    pub turn-unknown : U.Unknown ≡ turn_of s (open_in k c.streams) q → told_of Failed 0 (S.Failure StreamUnknown) ≡ took
    turn-unknown u = clears Failed (S.Failure StreamUnknown) ∙ by_turn u

    -- it is ignored: the state and the streams stay
    pub turn-ignored : U.Ignored ≡ turn_of s (open_in k c.streams) q → told_of s k.opened S.Ignored ≡ took
    turn-ignored u =
        ap (λ (s : State). told_of s k.opened S.Ignored) state
        ∙ put-answered k c.streams c.queue bound long (state_in k) (open_in k c.streams) c.streams ws S.Ignored
        (sym (opened-own k c.streams c.queue bound long)) refl (sym (streams-own k c.streams c.queue bound long)) (sym (behind-size k c.streams c.queue))
        ∙ by_turn u

  -- ---- a request is accepted, by whether it is a RESET, and the state
  module _ (may : Accepting k) (long : length c.streams ≡ 8) (q : Request) where
    abbrev accepted : After
    accepted = carried (storing q) c (returned (accept (kept c) q))

    abbrev accepting : Bool → Bool → Done
    accepting x y =
        cond x
        (cond y (record { table = defunct (enqueued (kept c) (state_in k) (open_in k c.streams) q); said = closed })
        (record { table = enqueued (kept c) Interrupted (none_open (open_in k c.streams)) q; said = queued }))
        (record { table = enqueued (kept c) (state_in k) (open_in k c.streams) q; said = queued })

    accept-by : {x y : Bool} → is RESET q ≡ x → in_state (state_in k) Connected ≡ y → carried (storing q) c (returned (accepting x y)) ≡ accepted
    accept-by p u = sym (λ i. carried (storing q) c (returned (accepting (p i) (u i))))

    pub accept-closes : is RESET q ≡ true → in_state (state_in k) Connected ≡ true → record { connection = with (defunct_in (counted_in k (state_in k) k.opened)); answer = returned closed } ≡ accepted
    accept-closes p u =
        ap (λ (x : Connection). record { connection = x; answer = returned closed })
        (put-defunct k c.streams c.queue (bounds k may.bounds) long (enqueued (kept c) (state_in k) (open_in k c.streams) q) refl refl)
        ∙ accept-by p u

    -- its numbers are in the place behind the last one that waits
    abbrev stored : Control → After
    stored x = record { connection = joined x c.streams (holding q (place k.first k.waiting) c.queue); answer = returned queued }

    pub accept-resets : is RESET q ≡ true → in_state (state_in k) Connected ≡ false → stored (counted_in k Interrupted 0) ≡ accepted
    accept-resets p u = put-enqueued k c.streams c.queue (bounds k may.bounds) long Interrupted (none_open (open_in k c.streams)) q refl refl refl ∙ accept-by p u

    pub accept-queues : is RESET q ≡ false → stored (counted_in k (state_in k) k.opened) ≡ accepted
    accept-queues p =
        let b : Bounds k = bounds k may.bounds in
        put-enqueued k c.streams c.queue b long (state_in k) (open_in k c.streams) q (sym (opened-own k c.streams c.queue b long)) refl (sym (streams-own k c.streams c.queue b long))
        ∙ accept-by p refl
