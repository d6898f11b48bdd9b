-- What the calls of a conversation answer: each is made on the record as the call before it left it. Assumes nothing.
use Rattle.std.specs.Prelude.{List, [], ◌∷◌, ◌++◌}
use Rattle.refusal.specs.Answer.{Answer}
use Rattle.states.specs.Table.{Said}
use Rattle.record.specs.declared.record.Connection.{Connection}
use Rattle.states.specs.declared.request.Request.{Request}
use Rattle.states.specs.declared.answers.Outcome.{Outcome}
use Rattle.states.specs.Answers.{told_arrival, told_taken, told_reported, told_closing}
use Rattle.record.specs.Calls.{arrive_of, take_of, report_of, close_of}
use Rattle.calls.specs.declared.conversation.Heard.{Heard}

-- the record after a request's arrival, its turn, and the engine's outcome
unfoldable pub after : Connection → Request → Outcome → Connection
after c r o = (report_of (take_of (arrive_of c r).connection).connection o).connection

-- what these three calls answer
unfoldable pub round : Connection → Request → Outcome → List (Answer Said)
round c r o = (arrive_of c r).answer ∷ (take_of (arrive_of c r).connection).answer ∷ (report_of (take_of (arrive_of c r).connection).connection o).answer ∷ []

-- two requests, and the end of the connection
unfoldable pub conversation : Connection → Request → Outcome → Request → Outcome → List (Answer Said)
conversation c r₁ o₁ r₂ o₂ = round c r₁ o₁ ++ (round (after c r₁ o₁) r₂ o₂ ++ ((close_of (after (after c r₁ o₁) r₂ o₂)).answer ∷ []))

-- the code's answers in document 01's terms
abbrev pub told : Heard → List (Answer Said)
told r =
    told_arrival r.arrival ∷ told_taken r.taken ∷ told_reported r.reported
    ∷ told_arrival r.second_arrival ∷ told_taken r.second_taken ∷ told_reported r.second_reported
    ∷ told_closing r.closing ∷ []
