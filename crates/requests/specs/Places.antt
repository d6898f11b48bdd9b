-- The rule of places of the request reader: document 01, "Values": "Refusals other than 7 to 16 give place 0", with 25 to 27 for 16. Assumes nothing.
use Rattle.std.specs.Prelude.{ℕ, List}
use Rattle.refusal.specs.Answer.{Placed}
use Rattle.values.specs.Decode.{decode}
use Rattle.requests.specs.Requests.{request_of}

-- of all bytes, in every version
abbrev pub Claim : Type 0
Claim = (minor : ℕ) (s : List ℕ) → Placed (request_of minor (decode s))
