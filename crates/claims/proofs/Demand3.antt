-- What the claim says holds: demand 3 of every list of calls, when a call gives 24, and that unused places affect nothing. Assumes nothing.
use mathlib.Core.Path.{◌≡◌, refl, sym, ap, ◌∙◌, subst}
use mathlib.Core.Bool.{true, false, not, ◌&&◌}
use mathlib.Core.List.{List, [], ◌∷◌, map}
use mathlib.Core.Logic.{⊎_elim}
use Prim.Native.Nat.{ℕ, ◌+◌, ◌≤◌}
use native.Mathlib.Omega.{arith}
use lib.ListN.{length, take}
use Rattle.refusal.specs.Answer.{Answer, returned, refused}
use Rattle.states.specs.Requests.{any}
use Rattle.states.specs.Table.{Table, Call, Done, start, step}
use Rattle.states.specs.Rules.{rules}
use Rattle.states.specs.Events.{Event, said_by, run_t, events_t, requests, numbered, looked_up, rising, handed_over, summaries, wrongly_handed}
use Rattle.states.specs.TableClaim.{TableClaim}
use Rattle.states.proofs.Counting.{either, table-claim, number, never24}
use Rattle.states.proofs.Invariant.{start-keeps}
use Rattle.record.specs.declared.record.Connection.{Connection}
use Rattle.record.specs.Ring.{request_in, unnamed}
use Rattle.record.specs.Record.{state_in, is_in_flight, kept, bounded, named, keeps_rules, fresh}
use Rattle.record.specs.Calls.{After, Storing, carried}
use Rattle.record.proofs.Keeping.{size}
use Rattle.claims.specs.Calls.{run, events}
use Rattle.claims.specs.Claim.{Demand3, Checked, Sized, Alike, Unused, Claim}
use Rattle.claims.proofs.Following.{Fit, fit-rules, rules-fit, stores_of, call-called, called-by, Follows, follows}

-- ---- demand 3: the record follows the table from the fresh one on
fresh-fit : Fit fresh
fresh-fit = record {
  sized = record { streams = refl; kinds = refl; counts = refl; qids = refl };
  bounds = record { state = omega arith; flight = omega arith; first = omega arith; few = omega arith; fewer = omega arith };
  names = refl;
  keeps = start-keeps;
}

demand3 : (calls : List Call) → Demand3 calls
demand3 calls =
    let f : Follows fresh calls = follows fresh fresh-fit calls in
    let g : TableClaim calls = table-claim calls in
    let c = run fresh calls in
    let back : events_t start calls ≡ events fresh calls = sym f.seen in
    record {
      answers = f.seen;
      keeps = f.final;
      standing = fit-rules c f.fit;
      accepted = ap (λ (t : Table). t.accepted) f.final ∙ g.accepted ∙ ap (λ (l : List Event). length (requests l)) back;
      sent = ap (λ (t : Table). t.sent) f.final ∙ g.sent ∙ ap (λ (l : List Event). length (summaries l)) back;
      sum = λ d. f.fit.keeps.sum d ∙ ap (λ (n : ℕ). c.control.sent + n) (size c.control c.streams c.queue);
      most = subst (λ (t : Table). t.sent ≤ t.accepted) (sym f.final) g.most;
      kth = subst (λ (l : List Event). summaries l ≡ numbered 1 (take (length (summaries l)) (requests l))) back g.kth;
      handed = subst (λ (l : List Event). handed_over l ≡ looked_up (requests l) (handed_over l)) back g.handed;
      once = subst (λ (l : List Event). rising 0 (handed_over l) ≡ true) back g.once;
      never = subst (λ (l : List Event). any wrongly_handed l ≡ false) back g.never;
    }

-- ---- 24 exactly where the record handed in breaks a standing rule
carried-answer : (h : Storing) (c : Connection) (a : Answer Done) → (carried h c a).answer ≡ said_by a
carried-answer h c (returned d) = refl
carried-answer h c (refused n place) = refl

checked : (c : Connection) (call : Call) → Checked c call
checked c x = record {
  broken = λ e. call-called c x ∙ called-by (stores_of x) c (step (kept c) x) e;
  only = λ e. ⊎_elim
      (λ k. absurd (never24 (kept c) x
      (ap number (sym (carried-answer (stores_of x) c (step (kept c) x)) ∙ ap (λ (w : After). w.answer) (sym (call-called c x ∙ called-by (stores_of x) c (step (kept c) x) k)) ∙ e)))) (λ k. k)
      (either (keeps_rules c));
}

-- ---- a record that breaks a rule stays as it is, and every call gives 24
abbrev stuck : Table → List Call → List Event
stuck t [] = []
stuck t (x ∷ xs) = record { before = t; call = x; answer = refused 24 0 } ∷ stuck t xs

module _ (c : Connection) (e : keeps_rules c ≡ false) where
  stays : (calls : List Call) → run c calls ≡ c
  stays [] = refl
  stays (x ∷ xs) = ap (λ (w : After). run w.connection xs) ((checked c x).broken e) ∙ stays xs

  all-refused : (calls : List Call) → events c calls ≡ stuck (kept c) calls
  all-refused [] = refl
  all-refused (x ∷ xs) =
      ap (λ (w : After). record { before = kept c; call = x; answer = w.answer } ∷ events w.connection xs) ((checked c x).broken e)
      ∙ ap (λ (es : List Event). record { before = kept c; call = x; answer = refused 24 0 } ∷ es) (all-refused xs)

-- ---- what unused places hold: what is kept and the rules do not read it
module _ (c d : Connection) (a : Alike c d) where
  kept-alike : kept c ≡ kept d
  kept-alike = λ i. record {
    state = state_in (a.control i);
    waiting = map request_in (a.places i);
    in_flight = is_in_flight (a.control i);
    streams = record { numbers = a.streams i; next = (a.control i).next };
    accepted = (a.control i).accepted;
    sent = (a.control i).sent;
  }

  rules-alike : keeps_rules c ≡ keeps_rules d
  unfolding keeps_rules named
  rules-alike = λ i. bounded (a.control i) && (not (any unnamed (a.places i)) && rules (kept-alike i))

unused : (c d : Connection) → Sized c → Sized d → Alike c d → (calls : List Call) → Unused c d calls
unused c d s z a calls = ⊎_elim kept-rules broken-rules (either (keeps_rules c))
  where
    same : kept c ≡ kept d
    same = kept-alike c d a

    kept-rules : keeps_rules c ≡ true → Unused c d calls
    kept-rules e =
        let f : Follows c calls = follows c (rules-fit c s e) calls in
        let g : Follows d calls = follows d (rules-fit d z (sym (rules-alike c d a) ∙ e)) calls in
        record {
          answers = f.seen ∙ ap (λ (t : Table). events_t t calls) same ∙ sym g.seen;
          keeps = f.final ∙ ap (λ (t : Table). run_t t calls) same ∙ sym g.final;
        }

    broken-rules : keeps_rules c ≡ false → Unused c d calls
    broken-rules e =
        let h : keeps_rules d ≡ false = sym (rules-alike c d a) ∙ e in
        record {
          answers = all-refused c e calls ∙ ap (λ (t : Table). stuck t calls) same ∙ sym (all-refused d h calls);
          keeps = ap kept (stays c e calls) ∙ same ∙ sym (ap kept (stays d h calls));
        }

pub claim : Claim
claim = record { demand3 = demand3; checked = checked; unused = unused }
