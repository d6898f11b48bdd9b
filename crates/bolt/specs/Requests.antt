-- The requests and their tags: document 01, "Requests", the table. Assumes nothing.
use Rattle.std.specs.Prelude.{ℕ}

-- the requests, as the papers name them
pub data Kind : Type 0 where
  HELLO : Kind
  GOODBYE : Kind
  RESET : Kind
  RUN : Kind
  BEGIN : Kind
  COMMIT : Kind
  ROLLBACK : Kind
  DISCARD : Kind
  PULL : Kind

-- a request's tag: document 01, "Requests"
abbrev pub tag : Kind → ℕ
tag HELLO = 0x01
tag GOODBYE = 0x02
tag RESET = 0x0F
tag RUN = 0x10
tag BEGIN = 0x11
tag COMMIT = 0x12
tag ROLLBACK = 0x13
tag DISCARD = 0x2F
tag PULL = 0x3F
