-- From what is told of a message to the request that it is. Assumes nothing.
use mathlib.Core.Path.{◌≡◌, refl, ap, ◌∙◌}
use mathlib.Core.List.{List}
use Prim.Native.Nat.{ℕ}
use native.Mathlib.Omega.{arith}
use lib.ListN.{length}
use Rattle.std.specs.Prelude.{Result}
use Rattle.refusal.specs.Answer.{returned, refused, told_at}
use Rattle.refusal.specs.declared.Fault.{Fault}
use Rattle.markers.specs.Value.{Value, null, boolean, integer, float, bytes, string, list, dictionary, structure, count, first}
use Rattle.values.specs.Decode.{decode}
use Rattle.markers.specs.Extents.{most_open}
use Rattle.values.specs.Reading.{head_of, tell_message}
use Rattle.values.specs.declared.read.Found.{Found}
use Rattle.values.specs.Private.Placement.{PartsLie}
use Rattle.values.specs.declared.head.Head.{Head}
use Rattle.values.specs.declared.head.Head.TheVariants as H
use Rattle.values.proofs.Answers.{told-value, told-refusal, decode-reads}
use Rattle.values.proofs.Placement.{placement}
use Rattle.requests.specs.Checks.{complaints}
use Rattle.requests.specs.Requests.{tagged, request_in, request_of}
use Rattle.requests.specs.Private.Fields.{Answers}
use Rattle.requests.specs.declared.request.Request.{Request}

-- a value that is no Structure is no request
other-root : (minor : ℕ) (v : Value) (end : ℕ) → ((tag p n : ℕ) → head_of v end ≡ H.Structure tag p n → ⊥) → refused 14 0 ≡ request_in complaints minor v
unfolding head_of
other-root minor null end e = refl
other-root minor (boolean b) end e = refl
other-root minor (integer z) end e = refl
other-root minor (float bits) end e = refl
other-root minor (bytes start content) end e = refl
other-root minor (string start content) end e = refl
other-root minor (list vs) end e = refl
other-root minor (dictionary es) end e = refl
other-root minor (structure tag vs) end e = absurd (e tag (first vs end) (count vs) refl)

-- a Structure's fields lie where its head says
structure-root : (s : List ℕ) (minor : ℕ) (v : Value) (end tag p n : ℕ) → PartsLie s most_open v end → H.Structure tag p n ≡ head_of v end
    → (r : Result Request Fault) → Answers s p n (tagged complaints minor tag) r → told_at r ≡ request_in complaints minor v
unfolding head_of
structure-root s minor null end tag p n lie e r a = absurd (cc e)
structure-root s minor (boolean b) end tag p n lie e r a = absurd (cc e)
structure-root s minor (integer z) end tag p n lie e r a = absurd (cc e)
structure-root s minor (float bits) end tag p n lie e r a = absurd (cc e)
structure-root s minor (bytes start content) end tag p n lie e r a = absurd (cc e)
structure-root s minor (string start content) end tag p n lie e r a = absurd (cc e)
structure-root s minor (list vs) end tag p n lie e r a = absurd (cc e)
structure-root s minor (dictionary es) end tag p n lie e r a = absurd (cc e)
structure-root s minor (structure t vs) end tag p n lie e r a =
    let f : tag ≡ t = cc e in
    let g : p ≡ first vs end = cc e in
    let h : n ≡ count vs = cc e in
    a vs (record { end = end; lie = rw g lie; count = h }) ∙ ap (λ (x : ℕ). tagged complaints minor x vs) f

-- a value was told
module _ (s : List ℕ) (h : Head) (end : ℕ) (t : returned (record { head = h; end = end }) ≡ tell_message s (decode s)) (minor : ℕ) where
  value : (v : Value) × (decode s ≡ returned v) × (h ≡ head_of v (length s))
  value =
      let a = told-value s (record { head = h; end = end }) t in
      (a.0, a.1, ap (λ (f : Found). f.head) a.2)

  is-request : request_in complaints minor value.0 ≡ request_of minor (decode s)
  is-request = rw value.1

  pub no-structure : ((tag p n : ℕ) → h ≡ H.Structure tag p n → ⊥) → refused 14 0 ≡ request_of minor (decode s)
  no-structure k = other-root minor value.0 (length s) (λ tag p n e. k tag p n (value.2 ∙ e)) ∙ is-request

  pub structure-there : (tag p n : ℕ) → H.Structure tag p n ≡ h → (r : Result Request Fault) → Answers s p n (tagged complaints minor tag) r → told_at r ≡ request_of minor (decode s)
  structure-there tag p n e r a =
      let reads = (decode-reads s value.0 value.1).1 in
      structure-root s minor value.0 (length s) tag p n (placement s most_open 0 (omega arith) value.0 (length s) reads).parts (e ∙ value.2) r a ∙ is-request

-- a refusal was told
pub value-refused : (s : List ℕ) (number place minor : ℕ) → refused number place ≡ tell_message s (decode s) → refused number place ≡ request_of minor (decode s)
value-refused s number place minor e = rw (told-refusal s number place e)
