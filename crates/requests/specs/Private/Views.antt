-- What the code makes of its views of values: the checks and the extras over views, as the private contracts cite them. The meaning of
-- requests does not: it is said of the values (Requests.antt), and Viewed.antt in proofs/ shows that they agree. Assumes nothing.
use Rattle.std.specs.Prelude.{ℕ, Bool, cond, List, leb, ℤ, negsuc, Option, Some, None, unwrap_or}
use Rattle.refusal.specs.Answer.{Answer, returned, refused, and_then}
use Rattle.entries.specs.Names as Name
use Rattle.bolt.specs.Ranges.{minus_one_or}
use Rattle.requests.specs.Checks.{Complaints, wrong_kind, out_of_range, non_negative}
use Rattle.markers.specs.declared.extent.Span.{Span}
use Rattle.entries.specs.declared.view.Mode.{Mode}
use Rattle.entries.specs.declared.view.View.{View}
use Rattle.entries.specs.declared.view.View.TheVariants as As
use Rattle.entries.specs.declared.view.Entry.{Entry}
use Rattle.requests.specs.declared.request.Transaction.{Transaction}
use Rattle.requests.specs.declared.request.Batch.{Batch}
use Rattle.requests.specs.declared.request.Request.{Request}
use Rattle.requests.specs.declared.request.Request.TheVariants as R

-- what stands under each name, in views
abbrev pub Views : Type 0
Views = List ℕ → Option Entry

-- an entry that may be absent, by a check of its view
abbrev pub unless_absent : {A : Type 0} → (ℕ → View → Answer (Option A)) → Option Entry → Answer (Option A)
unless_absent check None = returned None
unless_absent check (Some e) = check e.place e.view

module _ (c : Complaints) where
  -- a String
  abbrev pub string_as : ℕ → View → Answer (Option Span)
  string_as place (As.String s mode) = returned (Some s)
  string_as place (As.Integer z) = wrong_kind c place
  string_as place (As.List item) = wrong_kind c place
  string_as place As.Dictionary = wrong_kind c place
  string_as place As.Other = wrong_kind c place

  abbrev pub string_seen : Option Entry → Answer (Option Span)
  string_seen = unless_absent string_as

  -- a Dictionary: its marker
  abbrev pub dictionary_as : ℕ → View → Answer (Option ℕ)
  dictionary_as place (As.String s mode) = wrong_kind c place
  dictionary_as place (As.Integer z) = wrong_kind c place
  dictionary_as place (As.List item) = wrong_kind c place
  dictionary_as place As.Dictionary = returned (Some place)
  dictionary_as place As.Other = wrong_kind c place

  abbrev pub dictionary_seen : Option Entry → Answer (Option ℕ)
  dictionary_seen = unless_absent dictionary_as

  -- a List of Strings: its marker
  abbrev pub unless_item : ℕ → Option ℕ → Answer (Option ℕ)
  unless_item place None = returned (Some place)
  unless_item place (Some item) = wrong_kind c item

  abbrev pub list_of_strings_as : ℕ → View → Answer (Option ℕ)
  list_of_strings_as place (As.String s mode) = wrong_kind c place
  list_of_strings_as place (As.Integer z) = wrong_kind c place
  list_of_strings_as place (As.List item) = unless_item place item
  list_of_strings_as place As.Dictionary = wrong_kind c place
  list_of_strings_as place As.Other = wrong_kind c place

  abbrev pub list_of_strings_seen : Option Entry → Answer (Option ℕ)
  list_of_strings_seen = unless_absent list_of_strings_as

  -- "r" or "w"
  abbrev pub unless_none : ℕ → Option Mode → Answer (Option Mode)
  unless_none place None = out_of_range c place
  unless_none place (Some mode) = returned (Some mode)

  abbrev pub mode_as : ℕ → View → Answer (Option Mode)
  mode_as place (As.String s mode) = unless_none place mode
  mode_as place (As.Integer z) = wrong_kind c place
  mode_as place (As.List item) = wrong_kind c place
  mode_as place As.Dictionary = wrong_kind c place
  mode_as place As.Other = wrong_kind c place

  abbrev pub mode_seen : Option Entry → Answer (Option Mode)
  mode_seen = unless_absent mode_as

  -- an Integer in a range
  abbrev pub integer_as : (ℤ → Bool) → ℕ → View → Answer (Option ℤ)
  integer_as range place (As.String s mode) = wrong_kind c place
  integer_as range place (As.Integer z) = cond (range z) (returned (Some z)) (out_of_range c place)
  integer_as range place (As.List item) = wrong_kind c place
  integer_as range place As.Dictionary = wrong_kind c place
  integer_as range place As.Other = wrong_kind c place

  abbrev pub integer_seen : (ℤ → Bool) → Option Entry → Answer (Option ℤ)
  integer_seen range = unless_absent (integer_as range)

  -- what is required: where it is absent, the place is the Dictionary's marker
  abbrev pub required_seen : {A : Type 0} → ℕ → Option A → Answer A
  required_seen at None = refused c.missing at
  required_seen at (Some a) = returned a

  -- ---- the extras
  unfoldable pub hello_seen : ℕ → ℕ → Views → Answer Request
  hello_seen minor at e =
      and_then (string_seen (e Name.user-agent)) (λ agent. and_then (required_seen at agent) (λ agent.
      and_then (string_seen (e Name.scheme)) (λ scheme.
      and_then (string_seen (e Name.principal)) (λ principal.
      and_then (string_seen (e Name.credentials)) (λ credentials.
      and_then (dictionary_seen (cond (leb 1 minor) (e Name.routing) None)) (λ routing.
      returned (R.Hello agent scheme principal credentials routing)))))))

  unfoldable pub transaction_seen : Views → Answer Transaction
  transaction_seen e =
      and_then (list_of_strings_seen (e Name.bookmarks)) (λ bookmarks.
      and_then (integer_seen non_negative (e Name.tx-timeout)) (λ timeout.
      and_then (dictionary_seen (e Name.tx-metadata)) (λ metadata.
      and_then (mode_seen (e Name.mode)) (λ access.
      and_then (string_seen (e Name.db)) (λ db.
      returned (record { bookmarks = bookmarks; tx_timeout = timeout; tx_metadata = metadata; mode = access; db = db }))))))

  -- a qid that is absent is -1
  unfoldable pub batch_seen : ℕ → Views → Answer Batch
  batch_seen at e =
      and_then (integer_seen (minus_one_or 1) (e Name.n)) (λ n. and_then (required_seen at n) (λ n.
      and_then (integer_seen (minus_one_or 0) (e Name.qid)) (λ qid.
      returned (record { n = n; qid = unwrap_or qid (negsuc 0) }))))

  -- the requests that have the extra alone, but for HELLO
  abbrev pub begin_seen : ℕ → Views → Answer Request
  begin_seen at e = and_then (transaction_seen e) (λ t. returned (R.Begin t))

  abbrev pub discard_seen : ℕ → Views → Answer Request
  discard_seen at e = and_then (batch_seen at e) (λ b. returned (R.Discard b))

  abbrev pub pull_seen : ℕ → Views → Answer Request
  pull_seen at e = and_then (batch_seen at e) (λ b. returned (R.Pull b))
