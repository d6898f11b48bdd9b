-- The request that a message is, or the refusal: document 01, "Requests"; document 02, request 1. The numbers of the three complaints are a
-- parameter: Renumbering.antt says what depends on them. Assumes nothing.
use Rattle.std.specs.Prelude.{ℕ, cond, leb, eqb, negsuc, Option, Some, None}
use Rattle.refusal.specs.Answer.{Answer, returned, refused, and_then}
use Rattle.markers.specs.Value.{Value, Items, no_items, item}
use Rattle.entries.specs.Names as Name
use Rattle.entries.specs.Lookup.{Held, absent, under, Lookup}
use Rattle.bolt.specs.Ranges.{minus_one_or}
use Rattle.bolt.specs.Requests.{tag, HELLO, GOODBYE, RESET, RUN, BEGIN, COMMIT, ROLLBACK, DISCARD, PULL}
use Rattle.markers.specs.ByKind.{on_dictionary, on_structure}
use Rattle.requests.specs.Checks.{Complaints, complaints, wrong_kind, string_at, integer_at, mode_at, dictionary_at, list_of_strings_at, required, optional, non_negative}
use Rattle.markers.specs.declared.extent.Span.{Span}
use Rattle.requests.specs.declared.request.Transaction.{Transaction}
use Rattle.requests.specs.declared.request.Batch.{Batch}
use Rattle.requests.specs.declared.request.Request.{Request}
use Rattle.requests.specs.declared.request.Request.TheVariants as R

-- "15: field count"
abbrev pub none : Answer Request → Items → Answer Request
none answer no_items = answer
none answer (item at v vs) = refused 15 0

abbrev pub one : (ℕ → Value → Answer Request) → Items → Answer Request
one f no_items = refused 15 0
one f (item at v vs) = none (f at v) vs

abbrev pub two : (ℕ → Value → ℕ → Value → Answer Request) → Items → Answer Request
two f no_items = refused 15 0
two f (item at v vs) = one (f at v) vs

abbrev pub three : (ℕ → Value → ℕ → Value → ℕ → Value → Answer Request) → Items → Answer Request
three f no_items = refused 15 0
three f (item at v vs) = two (f at v) vs

module _ (c : Complaints) where
  -- ---- entries that may be absent, by the kind of their value
  abbrev pub text : Held → Answer (Option Span)
  text = optional (string_at c) None Some

  abbrev pub dictionary : Held → Answer (Option ℕ)
  dictionary = optional (dictionary_at c) None Some

  abbrev pub list_of_strings : Held → Answer (Option ℕ)
  list_of_strings = optional (list_of_strings_at c) None Some

  -- ---- the extra of each request: what it asks of the entry under each name, in checking order; `at` is the Dictionary's marker
  -- "user_agent (required), scheme, principal, credentials, all String; routing Dictionary (from 4.1)"
  unfoldable pub hello : ℕ → ℕ → Lookup → Answer Request
  hello minor at e =
      and_then (required c (string_at c) at (e Name.user-agent)) (λ agent.
      and_then (text (e Name.scheme)) (λ scheme.
      and_then (text (e Name.principal)) (λ principal.
      and_then (text (e Name.credentials)) (λ credentials.
      and_then (dictionary (cond (leb 1 minor) (e Name.routing) absent)) (λ routing.
      returned (R.Hello agent scheme principal credentials routing))))))

  -- "bookmarks List of String; tx_timeout Integer, 0 or more; tx_metadata Dictionary; mode "r" or "w"; db String"
  unfoldable pub transaction : Lookup → Answer Transaction
  transaction e =
      and_then (list_of_strings (e Name.bookmarks)) (λ bookmarks.
      and_then (optional (integer_at c non_negative) None Some (e Name.tx-timeout)) (λ timeout.
      and_then (dictionary (e Name.tx-metadata)) (λ metadata.
      and_then (optional (mode_at c) None Some (e Name.mode)) (λ access.
      and_then (text (e Name.db)) (λ db.
      returned (record { bookmarks = bookmarks; tx_timeout = timeout; tx_metadata = metadata; mode = access; db = db }))))))

  -- "n required, -1 or at least 1; qid, -1 (also if absent) or at least 0"
  unfoldable pub batch : ℕ → Lookup → Answer Batch
  batch at e =
      and_then (required c (integer_at c (minus_one_or 1)) at (e Name.n)) (λ n.
      and_then (optional (integer_at c (minus_one_or 0)) (negsuc 0) (λ qid. qid) (e Name.qid)) (λ qid.
      returned (record { n = n; qid = qid })))

  abbrev pub begin : ℕ → Lookup → Answer Request
  begin at e = and_then (transaction e) (λ t. returned (R.Begin t))

  abbrev pub discard : ℕ → Lookup → Answer Request
  discard at e = and_then (batch at e) (λ b. returned (R.Discard b))

  abbrev pub pull : ℕ → Lookup → Answer Request
  pull at e = and_then (batch at e) (λ b. returned (R.Pull b))

  -- ---- fields, each with its marker's offset
  -- "extra is a Dictionary"
  abbrev pub extra : (ℕ → Lookup → Answer Request) → ℕ → Value → Answer Request
  extra f at = on_dictionary (λ es. f at (under es)) (wrong_kind c at)

  -- "query String, parameters Dictionary, extra"
  unfoldable pub run : ℕ → Value → ℕ → Value → ℕ → Value → Answer Request
  run q query p parameters x more =
      and_then (string_at c q query) (λ query.
      and_then (dictionary_at c p parameters) (λ parameters.
      extra (λ at e. and_then (transaction e) (λ t. returned (R.Run query parameters t))) x more))

  -- ---- requests
  -- by the tag; any other is 14
  unfoldable pub tagged : ℕ → ℕ → Items → Answer Request
  tagged minor given fields =
      cond (eqb given (tag HELLO)) (one (extra (hello minor)) fields)
      (cond (eqb given (tag GOODBYE)) (none (returned R.Goodbye) fields)
      (cond (eqb given (tag RESET)) (none (returned R.Reset) fields)
      (cond (eqb given (tag RUN)) (three run fields)
      (cond (eqb given (tag BEGIN)) (one (extra begin) fields)
      (cond (eqb given (tag COMMIT)) (none (returned R.Commit) fields)
      (cond (eqb given (tag ROLLBACK)) (none (returned R.Rollback) fields)
      (cond (eqb given (tag DISCARD)) (one (extra discard) fields)
      (cond (eqb given (tag PULL)) (one (extra pull) fields)
      (refused 14 0)))))))))

  -- "14: not a known request structure"
  abbrev pub request_in : ℕ → Value → Answer Request
  request_in minor = on_structure (tagged minor) (refused 14 0)

  -- "the whole value is checked first (7 to 13)"
  abbrev pub request_under : ℕ → Answer Value → Answer Request
  request_under minor decoded = and_then decoded (request_in minor)

-- what a message of Bolt 4.minor asks for
abbrev pub request_of : ℕ → Answer Value → Answer Request
request_of = request_under complaints
