-- Which lists of bytes are UTF-8: document 01, "Values", and RFC 3629, section 3. Assumes nothing.
use Rattle.std.specs.Prelude.{ℕ, zero, suc, ◌+◌, ◌*◌, ◌-◌, ◌/◌, ◌%◌, Bool, true, false, not, cond, ◌&&◌, Option, Some, None, List, [], ◌∷◌, leb, eqb}
use Rattle.std.specs.Int.Count.{count_leading_zeros}

-- "the count of leading one bits": the leading zeros of the byte's complement
abbrev pub leading_ones : ℕ → ℕ
leading_ones b = count_leading_zeros 8 (0xFF - b)

-- a continuation byte, 10xxxxxx
abbrev pub is_continuation : ℕ → Bool
is_continuation b = eqb (b / 0x40) 2

-- "character numbers between U+D800 and U+DFFF"
abbrev pub is_surrogate : ℕ → Bool
is_surrogate v = leb 0xD800 v && leb v 0xDFFF

-- "surrogates .. and numbers above 10FFFF are faults"
abbrev pub is_scalar : ℕ → Bool
is_scalar v = not (is_surrogate v) && leb v 0x10FFFF

-- s begins with `count` continuation bytes, and the bits v with six more of each are a scalar value, not below `least`: below it, the
-- form would be overlong
unfoldable pub completes : ℕ → ℕ → ℕ → List ℕ → Bool
completes zero least v s = leb least v && is_scalar v
completes (suc count) least v [] = false
completes (suc count) least v (b ∷ s) = is_continuation b && completes count least (v * 0x40 + b % 0x40) s

-- the size of a sequence whose lead byte gave the bits v and whose continuation bytes s begins with; none for a fault
abbrev pub sized : ℕ → ℕ → ℕ → List ℕ → Option ℕ
sized size least v s = cond (completes (size - 1) least v s) (Some size) None

-- the table of RFC 3629, section 3, by the count of leading one bits: "0, or 2 to 4; 1 and above 4 are faults"
abbrev pub rows : ℕ → ℕ → List ℕ → Option ℕ
rows ones lead s =
    cond (eqb ones 0) (Some 1)  -- 0000-007F      0xxxxxxx
    (cond (eqb ones 2) (sized 2 0x80 (lead % 0x20) s)  -- 0080-07FF      110xxxxx 10xxxxxx
    (cond (eqb ones 3) (sized 3 0x800 (lead % 0x10) s)  -- 0800-FFFF      1110xxxx 10xxxxxx 10xxxxxx
    (cond (eqb ones 4) (sized 4 0x10000 (lead % 0x08) s)  -- 10000-10FFFF   11110xxx 10xxxxxx 10xxxxxx 10xxxxxx
    None)))

-- the size of the sequence that begins with `lead` and goes on in s; none for a fault
unfoldable pub sequence : ℕ → List ℕ → Option ℕ
sequence lead s = rows (leading_ones lead) lead s

-- past its first `skip` bytes, s is one sequence after another
unfoldable pub sequences_from : ℕ → List ℕ → Bool
sequences_from skip [] = true
sequences_from zero (lead ∷ s) = elim (sequence lead s) [ Some size ↦ sequences_from (size - 1) s | None ↦ false ]
sequences_from (suc skip) (b ∷ s) = sequences_from skip s

-- s is UTF-8
unfoldable pub utf8 : List ℕ → Bool
utf8 s = sequences_from 0 s
