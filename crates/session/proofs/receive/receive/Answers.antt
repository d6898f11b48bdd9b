-- `receive::receive` meets its contract: less room brings the same, but for 21. Assumes nothing.
use Rattle.std.proofs.Common.{◌≡◌, ◌∙◌, ap, arith}
use mathlib.Core.Bool.{false≢true}
use denote.Enum.Bare.{sameb}
use Rattle.refusal.specs.declared.Refusal.{Refusal}
use Rattle.refusal.specs.declared.Refusal.TheVariants.{NoRoom}
use Rattle.refusal.specs.contracts.Refusal.{the_type}
use Rattle.refusal.specs.Numbers.{number_of}
use Rattle.refusal.proofs.Numbers.{distinct}
use Rattle.session.specs.Receiving.{refusal}
use Rattle.session.proofs.Receiving.{brought-long, brought-alike, brought-ok}
use Rattle.session.proofs.receive.receive.Goals as goal

pub returns-then-line-gt40000 : goal.returns-then-line-gt40000
returns-then-line-gt40000 c = brought-long _ _ _ (omega arith)

pub returns-in-Ok : goal.returns-in-Ok
returns-in-Ok c = brought-alike 512 _ _ _ (omega arith) c.in-Ok.ensures (brought-ok c.in-Ok.brought)

pub returns-else-eq : goal.returns-else-eq
returns-else-eq c =
    brought-alike 512 _ _ _ (omega arith) c.in-Err.ensures (λ k.
    let n : number_of c.in-Err.why ≡ 21 = (let z : refusal (number_of c.in-Err.why) ≡ refusal 21 = k in cc) in
    false≢true (c.if-eq.ensures ∙ ap (λ (why : Refusal). sameb the_type why NoRoom) (distinct c.in-Err.why NoRoom n)))
