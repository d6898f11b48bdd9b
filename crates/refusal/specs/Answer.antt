-- What a call answers in document 01's terms, and the rules that every refusal keeps ("Refusal numbers": "Every refusal consumes 0
-- and changes nothing"; "Values": "Refusals other than 7 to 16 give place 0"; "The caller closes after 5 to 16"). Document 02, request 1,
-- has 25, 26 and 27 for 16. Assumes nothing.
use Rattle.std.specs.Prelude.{ℕ, Bool, true, false, ◌&&◌, ◌||◌, List, ◌≡◌, leb, length, Result, Ok, Err}
use Rattle.refusal.specs.Numbers.{number_of}
use Rattle.refusal.specs.declared.Refusal.{Refusal}
use Rattle.refusal.specs.declared.Fault.{Fault}

-- a result, or a refusal with its number and its place
pub data Answer (A : Type 0) : Type 0 where
  returned : A → Answer A
  refused : ℕ → ℕ → Answer A

-- a refusal at a place
abbrev pub placed : Refusal → ℕ → Fault
placed why place = record { refusal = why; place = place }

-- ---- what the code answers, in these terms
-- a refusal of the whole: place 0
abbrev pub told : {A : Type 0} → Result A Refusal → Answer A
told (Ok a) = returned a
told (Err why) = refused (number_of why) 0

-- a refusal with its place
abbrev pub told_at : {A : Type 0} → Result A Fault → Answer A
told_at (Ok a) = returned a
told_at (Err fault) = refused (number_of fault.refusal) fault.place

-- the result made into something else
abbrev pub mapped : {A B : Type 0} → (A → B) → Answer A → Answer B
mapped f (returned a) = returned (f a)
mapped f (refused number place) = refused number place

-- how much input was consumed: what the result says, 0 where refused
abbrev pub consumed : {A : Type 0} → (A → ℕ) → Answer A → ℕ
consumed used (returned a) = used a
consumed used (refused number place) = 0

-- what a writer tells its caller: how many bytes it wrote
abbrev pub counted : Answer (List ℕ) → Answer ℕ
counted (returned v) = returned (length v)
counted (refused number place) = refused number place

-- what stands in lent memory, or in the record, afterwards: what the result leaves there, or what stood there before
abbrev pub left : {A B : Type 0} → (A → B → B) → Answer A → B → B
left leaves (returned a) before = leaves a before
left leaves (refused number place) before = before

-- number is one of from .. to
abbrev pub among : ℕ → ℕ → ℕ → Bool
among from to number = leb from number && leb number to

-- 7 to 15 and 25 to 27 name a place in the message
abbrev pub has_place : ℕ → Bool
has_place number = among 7 15 number || among 25 27 number

-- any other refusal gives place 0
abbrev pub Placed : {A : Type 0} → Answer A → Type 0
Placed (returned a) = Unit {0}
Placed (refused number place) = has_place number ≡ false → place ≡ 0

-- one check, then the next: the first refusal decides
abbrev pub and_then : {A B : Type 0} → Answer A → (A → Answer B) → Answer B
and_then (returned a) f = f a
and_then (refused number place) f = refused number place

-- the caller closes after 5 to 15 and 25 to 27
abbrev pub closes_after : ℕ → Bool
closes_after number = among 5 15 number || among 25 27 number

-- every refusal is one of these, each a number and a place
abbrev pub Refuses : {A : Type 0} → (ℕ → ℕ → Bool) → Answer A → Type 0
Refuses fits (returned a) = Unit {0}
Refuses fits (refused number place) = fits number place ≡ true
