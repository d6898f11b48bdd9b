-- `calls::set::place_requests` meets its contract: each request takes at most 40,001 bytes. Assumes nothing.
use Prim.Native.Nat.{◌+◌, ◌*◌, ◌≤◌}
use Rattle.calls.proofs.set.place_requests.Given as goal

abbrev pub invariant-loop : goal.invariant-loop
invariant-loop l = l.from ≤ 4 + 40001 * l.counter
