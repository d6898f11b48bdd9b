-- The loop of `record::streams::are_valid`: what is left to check decides. Assumes nothing.
use Rattle.std.proofs.Common.{◌≡◌, take, drop}
use Rattle.states.specs.Rules.{distinct_below}
use Rattle.record.proofs.streams.are_valid.Given as goal

abbrev pub invariant-loop-i : goal.invariant-loop-i
invariant-loop-i l = distinct_below l.next (take l.count l.streams) ≡ distinct_below l.next (drop l.i (take l.count l.streams))
