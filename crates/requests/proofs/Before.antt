-- The meaning of before is the meaning with 16 for all three complaints: the views that it spoke of are those of the values. Assumes nothing.
use mathlib.Core.Path.{◌≡◌, refl, sym}
use mathlib.Core.Bool.{Bool, true, false, cond}
use mathlib.Core.List.{List}
use Prim.Native.Nat.{ℕ, ◌<◌}
use Rattle.refusal.specs.Answer.{Answer, returned, refused, and_then}
use Rattle.markers.specs.Value.{Value, Items, no_items, item, Entries, no-entries, entry}
use Rattle.markers.proofs.ByKind.{of-each}
use Rattle.slices.specs.Equality.{same}
use Rattle.entries.specs.Numbering.{name_of}
use Rattle.entries.specs.Lookup.{held, under, Lookup}
use Rattle.entries.specs.View.{seen}
use Rattle.markers.specs.ByKind.{on_dictionary}
use Rattle.requests.specs.Checks.{string_at, dictionary_at}
use Rattle.requests.specs.Requests.{one, three, extra, run, transaction, hello, begin, discard, pull, tagged, request_in}
use Rattle.requests.specs.Private.Views.{string_seen, Views, required_seen, hello_seen, begin_seen, discard_seen, pull_seen}
use Rattle.requests.specs.Before as Before
use Rattle.requests.specs.Before.{sixteen}
use Rattle.markers.specs.declared.extent.Span.{Span}
use Rattle.requests.specs.declared.request.Request.{Request}
use Rattle.requests.specs.declared.request.Request.TheVariants as R
use Rattle.requests.proofs.Viewed.{hello-seen, transaction-seen, begin-seen, discard-seen, pull-seen}

under-seen : (es : Entries) (name : List ℕ) → Before.under es name ≡ seen (under es name)
unfolding Before.under under
under-seen no-entries name = refl
under-seen (entry at start key place v es) name = by (same key name) (under-seen es name)
  where
    by : (b : Bool) → Before.under es name ≡ seen (under es name) → cond b (seen (held place v)) (Before.under es name) ≡ seen (cond b (held place v) (under es name))
    by true later = refl
    by false later = later

-- ---- fields
-- a Dictionary's entries, by what each meaning makes of them
entries-of : {A : Type 0} (at : ℕ) (v : Value) (f g : Entries → Answer A) → ((es : Entries) → f es ≡ g es) → Before.entries_of at v f ≡ on_dictionary g (refused 16 at) v
entries-of at v f g h =
    of-each (λ w. Before.entries_of at w f ≡ on_dictionary g (refused 16 at) w)
    refl (λ _. refl) (λ _. refl) (λ _. refl) (λ _ _. refl) (λ _ _. refl) (λ _. refl) h (λ _ _. refl) v

-- a request whose one field is its extra
extra-alike : (f : ℕ → Views → Answer Request) (g : ℕ → Lookup → Answer Request)
    → ((e : Views) (e' : Lookup) → ((k : ℕ) → k < 12 → e (name_of k) ≡ seen (e' (name_of k))) → (at : ℕ) → f at e ≡ g at e')
    → (fields : Items) → one (Before.extra f) fields ≡ one (extra sixteen g) fields
extra-alike f g h no_items = refl
extra-alike f g h (item at v no_items) = entries-of at v _ (λ es. g at (under es)) (λ es. h (Before.under es) (under es) (λ k i. under-seen es (name_of k)) at)
extra-alike f g h (item at v (item p w vs)) = refl

-- RUN: a query, then the parameters
query-alike : (q : ℕ) (v : Value) (f g : Span → Answer Request) → ((s : Span) → f s ≡ g s)
    → and_then (string_seen sixteen (seen (held q v))) (λ t. and_then (required_seen sixteen q t) f) ≡ and_then (string_at sixteen q v) g
query-alike q v f g h =
    of-each (λ w. and_then (string_seen sixteen (seen (held q w))) (λ t. and_then (required_seen sixteen q t) f) ≡ and_then (string_at sixteen q w) g)
    refl (λ _. refl) (λ _. refl) (λ _. refl) (λ _ _. refl) (λ start content. h _) (λ _. refl) (λ _. refl) (λ _ _. refl) v

parameters-alike : (p : ℕ) (v : Value) (x : Answer Request) (g : ℕ → Answer Request) → x ≡ g p → Before.entries_of p v (λ _. x) ≡ and_then (dictionary_at sixteen p v) g
parameters-alike p v x g h =
    of-each (λ w. Before.entries_of p w (λ _. x) ≡ and_then (dictionary_at sixteen p w) g)
    refl (λ _. refl) (λ _. refl) (λ _. refl) (λ _ _. refl) (λ _ _. refl) (λ _. refl) (λ _. h) (λ _ _. refl) v

run-alike : (q : ℕ) (query : Value) (p : ℕ) (parameters : Value) (x : ℕ) (more : Value) → Before.run q query p parameters x more ≡ run sixteen q query p parameters x more
unfolding Before.run run
run-alike q query p parameters x more =
    query-alike q query _ _ (λ s. parameters-alike p parameters _ _
    (entries-of x more _ (λ es. and_then (transaction sixteen (under es)) (λ t. returned (R.Run s p t)))
    (λ es. rw (transaction-seen sixteen (Before.under es) (under es) (λ j h. under-seen es (name_of j))))))

three-alike : (fields : Items) → three Before.run fields ≡ three (run sixteen) fields
three-alike no_items = refl
three-alike (item q query no_items) = refl
three-alike (item q query (item p parameters no_items)) = refl
three-alike (item q query (item p parameters (item x more no_items))) = run-alike q query p parameters x more
three-alike (item q query (item p parameters (item x more (item y v vs)))) = refl

-- ---- requests
tagged-alike : (minor given : ℕ) (fields : Items) → Before.tagged minor given fields ≡ tagged sixteen minor given fields
unfolding Before.tagged tagged
tagged-alike minor given fields =
    rw (
      extra-alike (hello_seen sixteen minor) (hello sixteen minor) (λ e e' a at. hello-seen sixteen e e' a minor at) fields,
      three-alike fields,
      extra-alike (begin_seen sixteen) (begin sixteen) (begin-seen sixteen) fields,
      extra-alike (discard_seen sixteen) (discard sixteen) (discard-seen sixteen) fields,
      extra-alike (pull_seen sixteen) (pull sixteen) (pull-seen sixteen) fields,
    )

pub same-request : (minor : ℕ) (v : Value) → request_in sixteen minor v ≡ Before.request_in minor v
same-request minor v =
    of-each (λ w. request_in sixteen minor w ≡ Before.request_in minor w)
    refl (λ _. refl) (λ _. refl) (λ _. refl) (λ _ _. refl) (λ _ _. refl) (λ _. refl) (λ _. refl) (λ given fields. sym (tagged-alike minor given fields)) v
