-- What requests meant before request 1 of document 02: one complaint, 16, whether a required entry is absent, a field or an entry is of another
-- kind, or a number or word out of its range. The text is that of document 01's base, over the code's views: kept for Renumbering.antt, and
-- cited by no contract. Assumes nothing.
use Rattle.std.specs.Prelude.{ℕ, cond, eqb}
use Rattle.refusal.specs.Answer.{Answer, returned, refused, and_then}
use Rattle.slices.specs.Equality.{same}
use Rattle.markers.specs.Value.{Value, null, boolean, integer, float, bytes, string, list, dictionary, structure, Items, Entries, no-entries, entry}
use Rattle.entries.specs.Lookup.{absent, held}
use Rattle.entries.specs.View.{seen}
use Rattle.bolt.specs.Requests.{tag, HELLO, GOODBYE, RESET, RUN, BEGIN, COMMIT, ROLLBACK, DISCARD, PULL}
use Rattle.requests.specs.Checks.{Complaints}
use Rattle.requests.specs.Requests.{none, one, three}
use Rattle.requests.specs.Private.Views.{Views, string_seen, required_seen, hello_seen, transaction_seen, begin_seen, discard_seen, pull_seen}
use Rattle.requests.specs.declared.request.Request.{Request}
use Rattle.requests.specs.declared.request.Request.TheVariants as R

-- 16 for all three
abbrev pub sixteen : Complaints
sixteen = record { missing = 16; kind = 16; range = 16 }

abbrev pub wrong : {A : Type 0} → ℕ → Answer A
wrong place = refused 16 place

-- what stands under a name; the others are passed over
unfoldable pub under : Entries → Views
under no-entries name = seen absent
under (entry at start key place v es) name = cond (same key name) (seen (held place v)) (under es name)

-- ---- fields, each with its marker's offset
-- a Dictionary's entries
abbrev pub entries_of : {A : Type 0} → ℕ → Value → (Entries → Answer A) → Answer A
entries_of at (dictionary es) f = f es
entries_of at null f = wrong at
entries_of at (boolean b) f = wrong at
entries_of at (integer z) f = wrong at
entries_of at (float bits) f = wrong at
entries_of at (bytes start content) f = wrong at
entries_of at (string start content) f = wrong at
entries_of at (list vs) f = wrong at
entries_of at (structure tag vs) f = wrong at

-- "extra is a Dictionary"
abbrev pub extra : (ℕ → Views → Answer Request) → ℕ → Value → Answer Request
extra f at v = entries_of at v (λ es. f at (under es))

-- "query String, parameters Dictionary, extra"
unfoldable pub run : ℕ → Value → ℕ → Value → ℕ → Value → Answer Request
run q query p parameters x extra =
    and_then (string_seen sixteen (seen (held q query))) (λ query. and_then (required_seen sixteen q query) (λ query.
    entries_of p parameters (λ _.
    entries_of x extra (λ es.
    and_then (transaction_seen sixteen (under es)) (λ t.
    returned (R.Run query p t))))))

-- ---- requests
-- by the tag; any other is 14
unfoldable pub tagged : ℕ → ℕ → Items → Answer Request
tagged minor given fields =
    cond (eqb given (tag HELLO)) (one (extra (hello_seen sixteen minor)) fields)
    (cond (eqb given (tag GOODBYE)) (none (returned R.Goodbye) fields)
    (cond (eqb given (tag RESET)) (none (returned R.Reset) fields)
    (cond (eqb given (tag RUN)) (three run fields)
    (cond (eqb given (tag BEGIN)) (one (extra (begin_seen sixteen)) fields)
    (cond (eqb given (tag COMMIT)) (none (returned R.Commit) fields)
    (cond (eqb given (tag ROLLBACK)) (none (returned R.Rollback) fields)
    (cond (eqb given (tag DISCARD)) (one (extra (discard_seen sixteen)) fields)
    (cond (eqb given (tag PULL)) (one (extra (pull_seen sixteen)) fields)
    (refused 14 0)))))))))

-- "14: not a known request structure"
abbrev pub request_in : ℕ → Value → Answer Request
request_in minor (structure given fields) = tagged minor given fields
request_in minor null = refused 14 0
request_in minor (boolean b) = refused 14 0
request_in minor (integer z) = refused 14 0
request_in minor (float bits) = refused 14 0
request_in minor (bytes start content) = refused 14 0
request_in minor (string start content) = refused 14 0
request_in minor (list vs) = refused 14 0
request_in minor (dictionary es) = refused 14 0

abbrev pub request_of : ℕ → Answer Value → Answer Request
request_of minor decoded = and_then decoded (request_in minor)
