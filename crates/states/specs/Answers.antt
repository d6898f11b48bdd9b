-- Document 01's number and values for each case that a call can answer. Assumes nothing.
use Rattle.std.specs.Prelude.{Result}
use Rattle.refusal.specs.declared.Refusal.{Refusal}
use Rattle.refusal.specs.Answer.{Answer, told, mapped}
use Rattle.states.specs.declared.answers.Arrival.{Arrival}
use Rattle.states.specs.declared.answers.Arrival.TheVariants as A
use Rattle.states.specs.declared.answers.Answered.{Answered}
use Rattle.states.specs.declared.answers.Taken.{Taken}
use Rattle.states.specs.declared.answers.Taken.TheVariants as T
use Rattle.states.specs.Table.{Said, queued, closed, idle, handed, answered}

-- ---- what an answer says, where nothing is refused
abbrev pub arrival_says : Arrival → Said
arrival_says A.Queued = queued
arrival_says A.Closed = closed

abbrev pub answer_says : Answered → Said
answer_says a = answered a.summary a.number

abbrev pub take_says : Taken → Said
take_says T.Idle = idle
take_says T.Closed = closed
take_says (T.Handed number r) = handed r number
take_says (T.Answered a) = answer_says a

abbrev pub closing_says : Unit {0} → Said
closing_says done = closed

-- ---- what a call answers: the refusals of the calls have place 0
abbrev pub told_arrival : Result Arrival Refusal → Answer Said
told_arrival a = mapped arrival_says (told a)

abbrev pub told_taken : Result Taken Refusal → Answer Said
told_taken a = mapped take_says (told a)

abbrev pub told_reported : Result Answered Refusal → Answer Said
told_reported a = mapped answer_says (told a)

abbrev pub told_closing : Result (Unit {0}) Refusal → Answer Said
told_closing a = mapped closing_says (told a)
