-- The loop of `record::scan::scan`: what is left decides, with the flag so far. Assumes nothing.
use Rattle.std.proofs.Common.{◌≡◌, ◌-◌}
use Rattle.record.specs.Private.Seen.{seen_of}
use Rattle.record.specs.Ring.{lined, place_at}
use Rattle.record.proofs.Pass.{seen_from}
use Rattle.record.proofs.scan.scan.Given as goal

abbrev pub invariant-loop : goal.invariant-loop
invariant-loop l = seen_of (lined (place_at l.queue) l.first l.waiting) ≡ seen_from l.reset (lined (place_at l.queue) l.at (l.waiting - l.counter))
