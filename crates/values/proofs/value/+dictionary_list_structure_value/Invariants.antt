-- The readers of `values::value` meet their contracts: the measure is twice the room for open containers and the bytes that are left, and one more
-- where a container's items are read. Assumes nothing.
use Rattle.std.proofs.Common.{◌+◌, ◌-◌, ◌*◌, ◌≤◌, length, take}
use Rattle.values.specs.Decode.{value_at}
use Rattle.values.specs.Private.Keys.{keys_of, KeysInside}
use Rattle.values.proofs.Steps.{ItemsLeft, EntriesLeft}
use Rattle.values.proofs.value.+dictionary_list_structure_value.Given as goal

abbrev pub decreases-value : goal.decreases-value
decreases-value l = 2 * (l.depth + (length l.message.now - l.at))

abbrev pub decreases-list : goal.decreases-list
decreases-list l = 2 * (l.depth + (length l.message.now - l.first)) + 1

abbrev pub decreases-structure : goal.decreases-structure
decreases-structure l = 2 * (l.depth + (length l.message.now - l.start)) + 1

abbrev pub decreases-dictionary : goal.decreases-dictionary
decreases-dictionary l = 2 * (l.depth + (length l.message.now - l.first)) + 1

abbrev pub invariant-list-loop : goal.invariant-list-loop
invariant-list-loop l = (l.first ≤ l.at) × ItemsLeft (value_at l.message l.depth) l.count l.first l.counter l.at

abbrev pub invariant-dictionary-loop-i : goal.invariant-dictionary-loop-i
invariant-dictionary-loop-i l =
    (l.first + 2 * l.i ≤ l.at) × (l.at ≤ length l.message) × KeysInside l.message (take l.i l.scratch)
    × EntriesLeft l.message (value_at l.message l.depth) l.count l.first l.i l.at (keys_of l.message (take l.i l.scratch))
