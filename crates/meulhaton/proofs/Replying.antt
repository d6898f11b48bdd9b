-- What the calls in numbers are passed and reply, and what they ensure, as `Passing` takes it. Assumes nothing.
use mathlib.Core.Path.{◌≡◌, refl, ap, ◌∙◌}
use mathlib.Core.List.{[], ◌∷◌}
use Rattle.refusal.specs.Answer.{Answer}
use Rattle.states.specs.Table.{Said}
use Rattle.record.specs.declared.record.Connection.{Connection}
use Rattle.record.specs.Calls.{After, report_of}
use Rattle.in_place.proofs.InPlace.{Plain, of_field, Ensures}
use Rattle.connection.proofs.Parts.{connection}
use Rattle.meulhaton_fields.specs.contracts.request.RequestImage as request-type
use Rattle.meulhaton_fields.proofs.request.RequestImage.TheLaws as request-laws
use Rattle.meulhaton_calls.specs.declared.replies.Reply.{Reply}
use Rattle.meulhaton_calls.specs.Replies.{reply_of}
use Rattle.meulhaton_calls.specs.Calls.{outcome_of, ReplyAfter, in_numbers, unnamed_of}
use Rattle.meulhaton_calls.specs.contracts.arguments.OutcomeImage as outcome-type
use Rattle.meulhaton_calls.proofs.arguments.OutcomeImage.TheLaws as outcome-laws
use Rattle.meulhaton_calls.specs.contracts.replies.Reply as reply-type
use Rattle.meulhaton_calls.proofs.replies.Reply.TheLaws as reply-laws

abbrev pub request : Plain
request = of_field request-type.the_field request-laws.the_field_laws request-laws.the_field_plain request-laws.the_field_copy refl

abbrev pub outcome : Plain
outcome = of_field outcome-type.the_field outcome-laws.the_field_laws outcome-laws.the_field_plain outcome-laws.the_field_copy refl

abbrev pub reply : Plain
reply = of_field reply-type.the_field reply-laws.the_field_laws reply-laws.the_field_plain reply-laws.the_field_copy refl

-- a call leaves the record that x says, and replies what x says
abbrev pub Replied : ReplyAfter → Reply → Connection → Type 0
Replied x r w = (w ≡ x.connection) × (r ≡ x.reply)

-- a report, by whether its outcome is named
abbrev pub reports-named : Ensures connection reply (outcome ∷ [])
reports-named κs h xs r w = Replied (in_numbers (report_of h (outcome_of xs.0.number))) r w

abbrev pub reports-unnamed : Ensures connection reply []
reports-unnamed κs h xs r w = Replied (unnamed_of h) r w

-- the record that a call leaves, and the reply that is made of its answer
pub in-numbers : (a : After) {s : Answer Said} {r : Reply} {w : Connection} → (w ≡ a.connection) × (s ≡ a.answer) → r ≡ reply_of s → Replied (in_numbers a) r w
in-numbers a e f = (e.0, f ∙ ap reply_of e.1)

-- and of what equals it
pub as_call : {x y : ReplyAfter} {r : Reply} {w : Connection} → x ≡ y → Replied x r w → Replied y r w
as_call e p = (p.0 ∙ ap (λ (z : ReplyAfter). z.connection) e, p.1 ∙ ap (λ (z : ReplyAfter). z.reply) e)
