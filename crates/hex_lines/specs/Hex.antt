-- Lines of upper-case hexadecimal digits, to bytes and back: document 01, "Bench trial program", and refusals 21 and 23. Assumes nothing.
use Rattle.std.specs.Prelude.{ℕ, ◌+◌, ◌-◌, ◌*◌, ◌/◌, ◌%◌, Bool, true, cond, ◌&&◌, ◌||◌, List, [], ◌∷◌, leb, ltb, eqb, length, get_or}
use Rattle.refusal.specs.Answer.{Answer, returned, refused}

-- '0' to '9', and 'A' to 'F'
unfoldable pub is_digit : ℕ → Bool
is_digit c = (leb 0x30 c && leb c 0x39) || (leb 0x41 c && leb c 0x46)

-- the value of a digit
unfoldable pub value_of : ℕ → ℕ
value_of c = cond (leb c 0x39) (c - 0x30) (c - 0x41 + 10)

-- 0123456789ABCDEF
abbrev pub digits : List ℕ
digits =
    0x30 ∷ 0x31 ∷ 0x32 ∷ 0x33 ∷ 0x34 ∷ 0x35 ∷ 0x36 ∷ 0x37 ∷ 0x38 ∷ 0x39 ∷ 0x41 ∷ 0x42 ∷ 0x43 ∷ 0x44 ∷ 0x45 ∷ 0x46 ∷ []

-- the digit of a value below 16
unfoldable pub digit_of : ℕ → ℕ
digit_of n = get_or digits n 0

-- all characters are digits
unfoldable pub all_digits : List ℕ → Bool
all_digits [] = true
all_digits (c ∷ s) = is_digit c && all_digits s

-- at most 40,000 characters, and pairs of upper-case hexadecimal digits
unfoldable pub is_line : List ℕ → Bool
is_line s = leb (length s) 40000 && (eqb (length s % 2) 0 && all_digits s)

-- the bytes that pairs of digits stand for, the high digit first
unfoldable pub to_bytes : List ℕ → List ℕ
to_bytes [] = []
to_bytes (c ∷ []) = []
to_bytes (high ∷ low ∷ s) = (16 * value_of high + value_of low) ∷ to_bytes s

-- the digits of bytes
unfoldable pub to_digits : List ℕ → List ℕ
to_digits [] = []
to_digits (b ∷ v) = digit_of (b / 16) ∷ digit_of (b % 16) ∷ to_digits v

-- an output into room for so many bytes: "no room .. exactly if the whole output is longer than the buffer"
abbrev pub into : ℕ → List ℕ → Answer (List ℕ)
into room v = cond (ltb room (length v)) (refused 21 0) (returned v)

-- a line read into bytes
unfoldable pub decoding : ℕ → List ℕ → Answer (List ℕ)
decoding room s = cond (is_line s) (into room (to_bytes s)) (refused 23 0)

-- bytes written as a line
unfoldable pub encoding : ℕ → List ℕ → Answer (List ℕ)
encoding room v = into room (to_digits v)
