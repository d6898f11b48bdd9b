-- `reader::copy_message` meets its contract. The invariants: what has come of the message stands in front of what the buffer held.
-- The inner loop's speaks of any such buffer, since it sees only the one that it started with. Assumes nothing.
use mathlib.Core.Path.{◌≡◌}
use mathlib.Core.List.{List}
use Prim.Native.Nat.{ℕ, ◌-◌, ◌≤◌, ◌<◌}
use lib.ListN.{length}
use Rattle.slices.specs.Parts.{part}
use Rattle.numbers.specs.BigEndian.{big_endian}
use Rattle.framing.specs.Reading.{frame_of}
use Rattle.framing.specs.Private.Copying.{IsMessage}
use Rattle.framing.proofs.Copying.{Copied}
use Rattle.framing.proofs.reader.copy_message.Given as goal

abbrev pub invariant-loop-size : goal.invariant-loop-size
invariant-loop-size l =
    (length l.buffer ≡ length l.initial.buffer) × (l.initial.at ≤ l.at) × (l.size ≡ big_endian (part l.input l.at 2)) × (l.size ≡ 0 → ⊥) × (l.size < 65536)
    × ((d : List ℕ) → Copied l.keep_alive l.input d l.initial.buffer l.initial.at l.initial.to → length l.initial.buffer ≡ length d → IsMessage (frame_of l.keep_alive (length d) l.input) → Copied l.keep_alive l.input d l.buffer l.at l.to)

abbrev pub decreases-loop-size : goal.decreases-loop-size
decreases-loop-size l = length l.input - l.at

abbrev pub invariant-loop-keep_alive : goal.invariant-loop-keep_alive
invariant-loop-keep_alive l = (length l.buffer ≡ length l.initial.buffer) × Copied l.keep_alive l.input l.initial.buffer l.buffer l.at l.to

abbrev pub decreases-loop-keep_alive : goal.decreases-loop-keep_alive
decreases-loop-keep_alive l = length l.input - l.at
