-- A request read, as numbers: document 01, "Requests". Assumes nothing.
use Rattle.std.specs.Prelude.{ℕ, pos, ℤ, Option, Some, None}
use Rattle.refusal.specs.Answer.{Answer, returned, refused}
use Rattle.markers.specs.declared.extent.Span.{Span}
use Rattle.entries.specs.declared.view.Mode.{Mode}
use Rattle.entries.specs.declared.view.Mode.TheVariants as M
use Rattle.requests.specs.declared.request.Transaction.{Transaction}
use Rattle.requests.specs.declared.request.Request.{Request}
use Rattle.requests.specs.declared.request.Request.TheVariants as R
use Rattle.states.specs.declared.request.Request.{Request as Arriving}
use Rattle.states.specs.Requests.{kind_of}
use Rattle.bolt.specs.Requests.{tag}
use Rattle.record.specs.Names.{count_of, qid_of}
use Rattle.summaries.specs.Arrivals.{arrival_of}
use Rattle.meulhaton_fields.specs.declared.fields.TextImage.{TextImage}
use Rattle.meulhaton_fields.specs.declared.fields.PlaceImage.{PlaceImage}
use Rattle.meulhaton_fields.specs.declared.fields.NumberImage.{NumberImage}
use Rattle.meulhaton_fields.specs.declared.fields.HelloImage.{HelloImage}
use Rattle.meulhaton_fields.specs.declared.fields.RunImage.{RunImage}
use Rattle.meulhaton_fields.specs.declared.fields.TransactionImage.{TransactionImage}
use Rattle.meulhaton_fields.specs.declared.fields.FieldsImage.{FieldsImage}
use Rattle.meulhaton_fields.specs.declared.request.RequestImage.{RequestImage}
use Rattle.meulhaton_fields.specs.declared.request.RequestRead.{RequestRead}

-- ---- a request as the connection is told of it
-- one that carries no numbers
abbrev pub bare : ℕ → RequestImage
bare kind = record { kind = kind; n = pos 0; qid = pos 0 }

-- a request's tag, and its n and qid
abbrev pub request_image : Arriving → RequestImage
request_image r = record { kind = tag (kind_of r); n = count_of r; qid = qid_of r }

-- ---- what may be absent
-- where a String's content lies
abbrev pub span_image : Span → TextImage
span_image s = record { present = 1; start = s.start; size = s.size }

-- a String
abbrev pub text_image : Option Span → TextImage
text_image None = record { present = 0; start = 0; size = 0 }
text_image (Some s) = span_image s

-- the offset of a marker
abbrev pub placed : ℕ → PlaceImage
placed offset = record { present = 1; offset = offset }

-- a List or a Dictionary
abbrev pub place_image : Option ℕ → PlaceImage
place_image None = record { present = 0; offset = 0 }
place_image (Some offset) = placed offset

-- an Integer
abbrev pub number_image : Option ℤ → NumberImage
number_image None = record { present = 0; value = pos 0 }
number_image (Some z) = record { present = 1; value = z }

-- "r" is 1, "w" is 2
abbrev pub mode_number : Option Mode → ℕ
mode_number None = 0
mode_number (Some M.Read) = 1
mode_number (Some M.Write) = 2

-- ---- the fields of each request
-- HELLO
abbrev pub hello_image : Span → Option Span → Option Span → Option Span → Option ℕ → HelloImage
hello_image agent scheme principal credentials routing = record {
  user_agent = span_image agent;
  scheme = text_image scheme;
  principal = text_image principal;
  credentials = text_image credentials;
  routing = place_image routing;
}

abbrev pub no_hello : HelloImage
no_hello = record {
  user_agent = text_image None;
  scheme = text_image None;
  principal = text_image None;
  credentials = text_image None;
  routing = place_image None;
}

-- RUN
abbrev pub run_image : Span → ℕ → RunImage
run_image query parameters = record { query = span_image query; parameters = placed parameters }

abbrev pub no_run : RunImage
no_run = record { query = text_image None; parameters = place_image None }

-- RUN and BEGIN
abbrev pub transaction_image : Transaction → TransactionImage
transaction_image t = record {
  bookmarks = place_image t.bookmarks;
  tx_timeout = number_image t.tx_timeout;
  tx_metadata = place_image t.tx_metadata;
  mode = mode_number t.mode;
  db = text_image t.db;
}

abbrev pub no_transaction : TransactionImage
no_transaction = transaction_image (record { bookmarks = None; tx_timeout = None; tx_metadata = None; mode = None; db = None })

abbrev pub no_fields : FieldsImage
no_fields = record { hello = no_hello; run = no_run; transaction = no_transaction }

-- the fields of a request; those of other requests are absent
abbrev pub fields_of : Request → FieldsImage
fields_of (R.Hello agent scheme principal credentials routing) = record { hello = hello_image agent scheme principal credentials routing; run = no_run; transaction = no_transaction }
fields_of R.Goodbye = no_fields
fields_of R.Reset = no_fields
fields_of (R.Run query parameters t) = record { hello = no_hello; run = run_image query parameters; transaction = transaction_image t }
fields_of (R.Begin t) = record { hello = no_hello; run = no_run; transaction = transaction_image t }
fields_of R.Commit = no_fields
fields_of R.Rollback = no_fields
fields_of (R.Discard batch) = no_fields
fields_of (R.Pull batch) = no_fields

-- ---- the request as the connection is told of it, and its fields
abbrev pub request_answer : Answer Request → RequestRead
request_answer (returned r) = record { refusal = 0; place = 0; request = request_image (arrival_of r); fields = fields_of r }
request_answer (refused number place) = record { refusal = number; place = place; request = bare 0; fields = no_fields }
