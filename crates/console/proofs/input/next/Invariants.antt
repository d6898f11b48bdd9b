-- `input::next` meets its contract: what is held lies inside, once a turn has passed. Assumes nothing.
use Rattle.std.proofs.Common.{◌<◌, ◌≤◌, length}
use Rattle.console.proofs.input.next.Given as goal

abbrev pub invariant-loop : goal.invariant-loop
invariant-loop l = 0 < l.counter → l.input.size ≤ length l.held
