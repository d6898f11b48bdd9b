-- `entries::view::first_wrong` meets its contract. The loop's invariant: the items that are left decide. Assumes nothing.
use Rattle.entries.proofs.Walking.{Wrong}
use Rattle.entries.proofs.view.first_wrong.Given as goal

abbrev pub invariant-loop : goal.invariant-loop
invariant-loop l = Wrong l.message l.count l.first l.counter l.at
