-- Request 1 of document 02 changed numbers and nothing else: "Places stay as they are, and each old 16 maps to exactly one new number".
-- Assumes nothing.
use Rattle.std.specs.Prelude.{ℕ, ◌≤◌, cond, List, ◌≡◌}
use Rattle.refusal.specs.Answer.{Answer, returned, refused, among}
use Rattle.values.specs.Decode.{decode}
use Rattle.requests.specs.Checks.{Complaints}
use Rattle.requests.specs.Requests.{request_under, request_of}
use Rattle.requests.specs.Before as Before

-- an answer with its refusal's number changed by f, and its place kept
abbrev pub renumbered : {A : Type 0} → (ℕ → ℕ) → Answer A → Answer A
renumbered f (returned a) = returned a
renumbered f (refused number place) = refused (f number) place

-- the complaints with their numbers changed by f
abbrev pub renamed : (ℕ → ℕ) → Complaints → Complaints
renamed f c = record { missing = f c.missing; kind = f c.kind; range = f c.range }

-- what each number was: 25, 26 and 27 were 16, and the others are as they were
abbrev pub was : ℕ → ℕ
was number = cond (among 25 27 number) 16 number

-- of every message, in every version
pub record Claim : Type 0 where
  -- the answer with other numbers is the answer under the table with those numbers, if 1 to 15 keep theirs
  pub renumbers : (f : ℕ → ℕ) → ((number : ℕ) → number ≤ 15 → f number ≡ number) → (c : Complaints) (minor : ℕ) (s : List ℕ)
      → renumbered f (request_under c minor (decode s)) ≡ request_under (renamed f c) minor (decode s)
  -- under 16 for all three it is the meaning of before
  pub sixteen : (minor : ℕ) (s : List ℕ) → request_under Before.sixteen minor (decode s) ≡ Before.request_of minor (decode s)
  -- so each old 16 is now one of 25, 26 and 27 at the same place, and nothing else has moved
  pub splits : (minor : ℕ) (s : List ℕ) → renumbered was (request_of minor (decode s)) ≡ Before.request_of minor (decode s)
