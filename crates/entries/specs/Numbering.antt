-- The known names by their numbers. Assumes nothing.
use Rattle.std.specs.Prelude.{ℕ, zero, suc, cond, List, [], ◌∷◌, get_or}
use Rattle.slices.specs.Equality.{same}
use Rattle.entries.specs.declared.names.Name.{Name}
use Rattle.entries.specs.declared.names.Name.TheVariants as N
use Rattle.entries.specs.Names.{user-agent, scheme, principal, credentials, routing, bookmarks, tx-timeout, tx-metadata, mode, db, n, qid}

-- all of them, request by request in checking order
abbrev pub names : List (List ℕ)
names = user-agent ∷ scheme ∷ principal ∷ credentials ∷ routing ∷ bookmarks ∷ tx-timeout ∷ tx-metadata ∷ mode ∷ db ∷ n ∷ qid ∷ []

abbrev pub name_of : ℕ → List ℕ
name_of k = get_or names k []

-- which of the names a key is; as many as there are where it is none
unfoldable pub index_of : List ℕ → List (List ℕ) → ℕ
index_of key [] = zero
index_of key (k ∷ ks) = cond (same key k) zero (suc (index_of key ks))

-- the name that the code has under each of its own
abbrev pub text_of : Name → List ℕ
text_of N.UserAgent = user-agent
text_of N.Scheme = scheme
text_of N.Principal = principal
text_of N.Credentials = credentials
text_of N.Routing = routing
text_of N.Bookmarks = bookmarks
text_of N.TxTimeout = tx-timeout
text_of N.TxMetadata = tx-metadata
text_of N.Mode = mode
text_of N.Db = db
text_of N.N = n
text_of N.Qid = qid
