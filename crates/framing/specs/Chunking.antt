-- A message written in chunks: document 01, "Frames", second paragraph, and refusals 22, 6, 21. Assumes nothing.
use Rattle.std.specs.Prelude.{ℕ, zero, suc, ◌/◌, cond, ◌||◌, List, [], ◌∷◌, ◌++◌, ltb, eqb, length, take, drop}
use Rattle.numbers.specs.BigEndian.{bytes_of}
use Rattle.refusal.specs.Answer.{Answer, returned, refused}
use Rattle.bolt.specs.Limits.{most_bytes}

-- a big-endian 16-bit size, and that many bytes
abbrev pub chunk_of : List ℕ → List ℕ
chunk_of v = bytes_of 2 (length v) ++ v

-- size zero ends the message
abbrev pub end : List ℕ
end = 0 ∷ 0 ∷ []

-- the remainder if any
abbrev pub remainder : List ℕ → List ℕ
remainder [] = []
remainder (b ∷ m) = chunk_of (b ∷ m)

-- q whole chunks of c bytes, then the remainder, then the end
unfoldable pub wholes : ℕ → ℕ → List ℕ → List ℕ
wholes zero c m = remainder m ++ end
wholes (suc q) c m = chunk_of (take c m) ++ wholes q c (drop c m)

-- the message in chunks of c bytes
unfoldable pub chunked : ℕ → List ℕ → List ℕ
chunked c m = wholes (length m / c) c m

-- the chunk writer: a message of 1 to 16,384 bytes, a chunk size of 1 to 65,535, into room for so many bytes
unfoldable pub writing : ℕ → ℕ → List ℕ → Answer (List ℕ)
writing c room m =
    cond (eqb (length m) 0 || (eqb c 0 || ltb 65535 c)) (refused 22 0)
    (cond (ltb most_bytes (length m)) (refused 6 0)
    (cond (ltb room (length (chunked c m))) (refused 21 0)
    (returned (chunked c m))))
