-- The open streams' numbers are the first n of an array: how many they are. Assumes nothing.
use mathlib.Core.Path.{◌≡◌}
use mathlib.Core.List.{List}
use Prim.Native.Nat.{ℕ, ◌≤◌, min}
use native.Mathlib.Omega.{arith}
use lib.ListN.{length, take, length-take}

pub open-length : (l : List ℕ) → length l ≡ 8 → (n : ℕ) → n ≤ 8 → length (take n l) ≡ n
open-length l long n few = let size : length (take n l) ≡ min n (length l) = length-take n l in omega arith
