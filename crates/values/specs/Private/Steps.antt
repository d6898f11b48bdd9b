-- How far a reader comes, as the code answers it. Assumes nothing.
use Rattle.std.specs.Prelude.{ℕ, Result, Ok, Err}
use Rattle.refusal.specs.Answer.{placed}
use Rattle.refusal.specs.declared.Fault.{Fault}
use Rattle.values.specs.Decode.{Parse, parsed, failed}

-- how far a reader comes: the offset past what it reads, or the refusal
abbrev pub step_of : {A : Type 0} → Parse A → Result ℕ Fault
step_of (parsed a end) = Ok end
step_of (failed why place) = Err (placed why place)
