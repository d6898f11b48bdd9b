-- `run::handle_line` meets its contract: by whether the run goes on, and by what the handler answers. Assumes nothing.
use Rattle.std.proofs.Common.{refl, sym, ap, ◌∙◌, length, Result}
use Rattle.refusal.specs.Answer.{told, mapped}
use Rattle.refusal.specs.declared.Refusal.{Refusal}
use Rattle.session.specs.declared.line.Handled.{Handled}
use Rattle.session.specs.declared.line.Handled.TheVariants as H
use Rattle.session.specs.Session.{told_handled}
use Rattle.run.proofs.Lines.{passed_over, handles, not-refused}
use Rattle.run.proofs.handle_line.Goals as goal

pub returns-then-not-run : goal.returns-then-not-run
returns-then-not-run c =
    let both = passed_over c.args.run.now.session c.args.run.now.goes_on c.args.line.now c.args.out.now c.if-not-run.true in
    record { progress = both.0; begun = refl; written = both.1.0; filled = both.1.1 }

pub unwrap-requires : goal.unwrap-requires
unwrap-requires c = not-refused c.args.run.now.session c.args.run.now.goes_on c.args.line.now c.args.out.now c.if-not-run.false (length c.args.out.now) c.requires c.handle.result c.handle.ensures.answer

pub returns-in-GoesOn : goal.returns-in-GoesOn
returns-in-GoesOn c =
    let h = c.handle in
    let both = handles c.args.run.now.session c.args.run.now.goes_on c.args.line.now c.args.out.now c.if-not-run.false (length c.args.out.now) c.requires (told_handled (H.GoesOn c.in-GoesOn.n)) _ _ _ c.if-not-run.false
    (sym (ap (λ (r : Result Handled Refusal). mapped told_handled (told r)) c.in-GoesOn.ensures) ∙ h.ensures.answer) h.ensures.goes_on h.ensures.filled in
    record { progress = both.0; begun = refl; written = both.1.0; filled = both.1.1 }

pub returns-in-Ended : goal.returns-in-Ended
returns-in-Ended c =
    let h = c.handle in
    let both = handles c.args.run.now.session c.args.run.now.goes_on c.args.line.now c.args.out.now c.if-not-run.false (length c.args.out.now) c.requires (told_handled (H.Ended c.in-Ended.n)) _ _ _ refl
    (sym (ap (λ (r : Result Handled Refusal). mapped told_handled (told r)) c.in-Ended.ensures) ∙ h.ensures.answer) h.ensures.goes_on h.ensures.filled in
    record { progress = both.0; begun = refl; written = both.1.0; filled = both.1.1 }
