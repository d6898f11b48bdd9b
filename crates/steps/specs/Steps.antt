-- What a step returns, with the streams and the queue after it, in the terms of the calls on a record. Assumes nothing.
use Rattle.std.specs.Prelude.{ℕ, List}
use Rattle.refusal.specs.Answer.{Answer}
use Rattle.states.specs.Table.{Said}
use Rattle.record.specs.declared.record.Queue.{Queue}
use Rattle.record.specs.Record.{joined}
use Rattle.record.specs.Calls as Calls
use Rattle.steps.specs.declared.after.After.{After}

-- by what its answer means
abbrev pub told_after : {A : Type 0} → (A → Answer Said) → After A → List ℕ → Queue → Calls.After
told_after told a streams queue = record { connection = joined a.control streams queue; answer = told a.answer }
