-- The loop of `record::ring::Queue::has_reset`: what is left to scan decides. Assumes nothing.
use Rattle.std.proofs.Common.{◌≡◌, ◌-◌}
use Rattle.states.specs.Requests.{any}
use Rattle.record.specs.Ring.{lined, kind_at, is_reset}
use Rattle.record.proofs.record.Queue.has_reset.Given as goal

abbrev pub invariant-loop : goal.invariant-loop
invariant-loop l = any is_reset (lined (kind_at l.self.kinds) l.first l.waiting) ≡ any is_reset (lined (kind_at l.self.kinds) l.at (l.waiting - l.counter))
