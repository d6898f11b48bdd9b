-- What becomes of a request whose turn comes, by the tests in its definition. Assumes nothing.
use mathlib.Core.Path.{◌≡◌, refl, sym, ap, ◌∙◌}
use mathlib.Core.Bool.{Bool, true, false, cond, not, ◌&&◌, ◌||◌, false≢true}
use Prim.Native.Nat.{◌<◌}
use lib.Dec.{leb}
use lib.ListN.{length}
use borrow.Author.Tests.{leb-false}
use Rattle.states.specs.declared.state.State.{State}
use Rattle.states.specs.declared.request.Request.{Request}
use Rattle.states.specs.declared.turn.Turn.{Turn}
use Rattle.states.specs.declared.turn.Turn.TheVariants.{Closes, Resets, Ignored, Handed, Full, Unknown}
use Rattle.states.specs.Requests.{kind_of, in_transaction, is_stopped, is, fetches}
use Rattle.bolt.specs.Requests.{Kind, RESET, RUN}
use Rattle.states.specs.Appendix.{hands_over, works}
use Rattle.states.specs.Table.{Open, is_full, names_open, ignores, turn_of}
use Rattle.states.specs.Rules.{is_handed}
use Rattle.std.proofs.lemmas.Bool.{or_parts}
use Rattle.states.proofs.Bools.{by-test}

pub ignores-by : (s : State) (k : Kind) {b : Bool} → is_stopped s ≡ b → ignores s k ≡ (b && works k)
unfolding ignores
ignores-by s k p = ap (λ (b : Bool). b && works k) p

module _ (s : State) (o : Open) where
  pub full_by : {t a b : Bool} → in_transaction s ≡ t → leb 8 (length o.numbers) ≡ a → leb 65536 o.next ≡ b → is_full s o ≡ (t && (a || b))
  unfolding is_full
  full_by p q r = λ i. p i && (q i || r i)

  -- a transaction with room for a stream
  pub room-for-one : in_transaction s ≡ true → is_full s o ≡ false → (length o.numbers < 8) × (o.next < 65536)
  room-for-one t e =
      let both : (leb 8 (length o.numbers) || leb 65536 o.next) ≡ false = sym (full_by t refl refl) ∙ e in
      (leb-false 8 (length o.numbers) ((or_parts (leb 8 (length o.numbers)) (leb 65536 o.next) both).0), leb-false 65536 o.next ((or_parts (leb 8 (length o.numbers)) (leb 65536 o.next) both).1))

  module _ (r : Request) where
    pub turn_by : {reset ignored handed run full fetching names : Bool} → is RESET r ≡ reset → ignores s (kind_of r) ≡ ignored → hands_over s (kind_of r) ≡ handed
        → is RUN r ≡ run → is_full s o ≡ full → fetches r ≡ fetching → names_open s o r ≡ names
        → turn_of s o r ≡ cond reset Resets (cond ignored Ignored (cond handed (cond (run && full) Full (cond (fetching && not names) Unknown Handed)) Closes))
    unfolding turn_of
    turn_by p q u v w x y = λ i. cond (p i) Resets (cond (q i) Ignored (cond (u i) (cond (v i && w i) Full (cond (x i && not (y i)) Unknown Handed)) Closes))

    -- what is known of a request that is handed over
    pub handed-facts : is_handed (turn_of s o r) ≡ true → (hands_over s (kind_of r) ≡ true) × ((is RUN r && is_full s o) ≡ false)
    unfolding turn_of
    handed-facts =
        let Facts : Type 0 = (hands_over s (kind_of r) ≡ true) × ((is RUN r && is_full s o) ≡ false) in
        let Handing : Turn → Type 0 = λ (u : Turn). is_handed u ≡ true → Facts in
        by-test Handing (is RESET r) (λ _ f. absurd (false≢true f))
        (λ _. by-test Handing (ignores s (kind_of r)) (λ _ f. absurd (false≢true f))
        (λ _. by-test Handing (hands_over s (kind_of r))
        (λ h. by-test Handing (is RUN r && is_full s o) (λ _ f. absurd (false≢true f)) (λ free _. (h, free)))
        (λ _ f. absurd (false≢true f))))
