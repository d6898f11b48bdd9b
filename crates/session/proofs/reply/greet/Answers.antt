-- `reply::greet` meets its contract: by the handshake's answer, and by its refusal. Assumes nothing.
use Rattle.std.proofs.Common.{refl, sym, ap, ◌∙◌, rules}
use mathlib.Core.Bool.{false≢true}
use denote.Enum.Bare.{sameb, same_true}
use Rattle.refusal.specs.declared.Refusal.{Refusal}
use Rattle.refusal.specs.declared.Refusal.TheVariants.{NoCommonVersion}
use Rattle.refusal.specs.contracts.Refusal.{the_type}
use Rattle.refusal.specs.Numbers.{number_of}
use Rattle.refusal.proofs.Numbers.{distinct}
use Rattle.session.proofs.Replies.{agrees_on, away-zeros, away-quiet}
use Rattle.session.proofs.reply.greet.Goals as goal

pub returns-in-Ok : goal.returns-in-Ok
returns-in-Ok c = agrees_on _ _ _ c.in-Ok.ensures _ c.to_bytes.ensures _ _ _ c.put_line.ensures.answer c.put_line.ensures.filled

pub returns-then-eq : goal.returns-then-eq
returns-then-eq c = away-zeros _ c.requires.awaiting _ _ c.in-Err.ensures _ _ (ap number_of (same_true the_type (search rules) c.in-Err.why NoCommonVersion (sym c.if-eq.ensures))) _ c.put_line-end.ensures.answer c.put_line-end.ensures.filled

pub returns-else-eq : goal.returns-else-eq
returns-else-eq c =
    away-quiet _ c.requires.awaiting _ _ c.in-Err.ensures _ _ (λ h. false≢true (c.if-eq.ensures ∙ ap (λ (why : Refusal). sameb the_type why NoCommonVersion) (distinct c.in-Err.why NoCommonVersion h))) refl
