-- `calls::conversation::hold` meets its contract: each call is made on the record as the call before it left it. Assumes nothing.
use Rattle.std.proofs.Common.{ap, ◌∙◌, [], ◌∷◌}
use Rattle.record.specs.declared.record.Connection.{Connection}
use Rattle.record.specs.Calls.{arrive_of, take_of, report_of, close_of}
use Rattle.calls.specs.Private.Conversation.{conversation, round, after}
use Rattle.calls.proofs.conversation.hold.Goals as goal

pub returns : goal.returns
unfolding conversation round after
returns c =
    let a = c.args in
    let e₁ = c.arrive-arrival.ensures in
    let e₂ = c.take-taken.ensures in
    let e₃ = c.report-reported.ensures in
    let e₄ = c.arrive-second_arrival.ensures in
    let e₅ = c.take-second_taken.ensures in
    let e₆ = c.report-second_reported.ensures in
    let e₇ = c.close-closing.ensures in
    -- the record after each call
    let k₁ = e₁.0 in
    let k₂ = e₂.0 ∙ ap (λ (z : Connection). (take_of z).connection) k₁ in
    let k₃ = e₃.0 ∙ ap (λ (z : Connection). (report_of z a.outcome).connection) k₂ in
    let k₄ = e₄.0 ∙ ap (λ (z : Connection). (arrive_of z a.second).connection) k₃ in
    let k₅ = e₅.0 ∙ ap (λ (z : Connection). (take_of z).connection) k₄ in
    let k₆ = e₆.0 ∙ ap (λ (z : Connection). (report_of z a.ending).connection) k₅ in
    -- what each answers
    let f₂ = e₂.1 ∙ ap (λ (z : Connection). (take_of z).answer) k₁ in
    let f₃ = e₃.1 ∙ ap (λ (z : Connection). (report_of z a.outcome).answer) k₂ in
    let f₄ = e₄.1 ∙ ap (λ (z : Connection). (arrive_of z a.second).answer) k₃ in
    let f₅ = e₅.1 ∙ ap (λ (z : Connection). (take_of z).answer) k₄ in
    let f₆ = e₆.1 ∙ ap (λ (z : Connection). (report_of z a.ending).answer) k₅ in
    let f₇ = e₇.1 ∙ ap (λ (z : Connection). (close_of z).answer) k₆ in
    λ i. e₁.1 i ∷ f₂ i ∷ f₃ i ∷ f₄ i ∷ f₅ i ∷ f₆ i ∷ f₇ i ∷ []
