-- `serve::serve` meets its contract. The loop's invariant: what the turns that are left send goes behind what is written. Assumes nothing.
use Rattle.std.proofs.Common.{◌-◌}
use Rattle.serving.specs.Serving.{serving}
use Rattle.session.proofs.Sending.{Writes}
use Rattle.session.proofs.serve.serve.Given as goal

abbrev pub invariant-loop : goal.invariant-loop
invariant-loop l = Writes (serving 33 l.initial.connection) (serving (33 - l.counter) l.connection) l.initial.out l.out l.end
