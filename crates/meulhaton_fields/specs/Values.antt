-- A value read, as numbers. Assumes nothing.
use Rattle.std.specs.Prelude.{ℕ, cond, ℤ, pos}
use Rattle.refusal.specs.Answer.{Answer, returned, refused}
use Rattle.values.specs.declared.read.Found.{Found}
use Rattle.values.specs.declared.head.Head.{Head}
use Rattle.values.specs.declared.head.Head.TheVariants as H
use Rattle.meulhaton_fields.specs.declared.value.HeadImage.{HeadImage}
use Rattle.meulhaton_fields.specs.declared.value.ValueRead.{ValueRead}

-- a value that lies nowhere but in its marker or its number
abbrev pub plain : ℕ → ℕ → ℤ → ℕ → HeadImage
plain kind boolean integer bits = record { kind = kind; boolean = boolean; tag = 0; integer = integer; bits = bits; start = 0; size = 0 }

-- a value whose content, or what it holds, lies from `start` on
abbrev pub lying : ℕ → ℕ → ℕ → ℕ → HeadImage
lying kind tag start size = record { kind = kind; boolean = 0; tag = tag; integer = pos 0; bits = 0; start = start; size = size }

-- no value
abbrev pub no_head : HeadImage
no_head = plain 0 0 (pos 0) 0

-- the kinds by their numbers, and what each holds
abbrev pub head_image : Head → HeadImage
head_image H.Null = plain 1 0 (pos 0) 0
head_image (H.Boolean b) = plain 2 (cond b 1 0) (pos 0) 0
head_image (H.Integer z) = plain 3 0 z 0
head_image (H.Float bits) = plain 4 0 (pos 0) bits
head_image (H.Bytes start size) = lying 5 0 start size
head_image (H.String start size) = lying 6 0 start size
head_image (H.List first count) = lying 7 0 first count
head_image (H.Dictionary first count) = lying 8 0 first count
head_image (H.Structure tag first count) = lying 9 tag first count

-- a value and the offset past it
abbrev pub value_answer : Answer Found → ValueRead
value_answer (returned found) = record { refusal = 0; place = 0; end = found.end; head = head_image found.head }
value_answer (refused number place) = record { refusal = number; place = place; end = 0; head = no_head }
