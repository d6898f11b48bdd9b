-- Laws of the readers' answers in the paper's terms. Assumes nothing.
use mathlib.Core.Path.{◌≡◌, refl, sym, ap, ◌∙◌, subst}
use mathlib.Core.Bool.{Bool, true, false, cond}
use mathlib.Core.List.{List}
use Prim.Native.Nat.{ℕ, ◌≤◌, ◌<◌}
use borrow.Author.Tests.{lt-ltb, le-ltb, ltb-false, eq-eqb, ne_eqb, eqb-true}
use lib.Dec.{ltb, eqb}
use lib.ListN.{length}
use Rattle.std.specs.Prelude.{Ok, Err, Option, Some, IsSome}
use Rattle.refusal.specs.Answer.{Answer, returned, refused}
use Rattle.refusal.specs.declared.Fault.{Fault}
use Rattle.refusal.specs.Numbers.{number_of}
use Rattle.refusal.specs.declared.Refusal.TheVariants.{TooLong, TrailingBytes}
use Rattle.markers.specs.Value.{Value}
use Rattle.values.specs.Decode.{Parse, parsed, failed, value_at, value_in, whole, message_of, answer_of, decode}
use Rattle.markers.specs.Extents.{most_open}
use Rattle.bolt.specs.Limits.{most_bytes}
use Rattle.values.specs.Reading.{head_of, found_at, tell_message, tell_value}
use Rattle.values.specs.Private.Steps.{step_of}
use Rattle.values.specs.Walk.{peek_at}
use Rattle.values.specs.Private.Placement.{Reads}
use Rattle.values.specs.declared.head.Head.{Head}
use Rattle.values.specs.declared.read.Found.{Found}
use Rattle.values.proofs.Steps.{step-to, step-refused}
use Rattle.values.proofs.Placement.{placement}

-- a message that is too long, and one that is not
module _ (s : List ℕ) (depth at : ℕ) where
  pub value-too-long : most_bytes < length s → failed TooLong 0 ≡ value_in s depth at
  unfolding value_in
  value-too-long h = rw (lt-ltb most_bytes (length s) h)

  pub value-not-long : length s ≤ most_bytes → value_at s depth at ≡ value_in s depth at
  unfolding value_in
  value-not-long h = rw (le-ltb most_bytes (length s) h)

-- ---- a value that was read through: its head is found where it lies
module _ (s : List ℕ) (depth at : ℕ) where
  module _ (room : depth ≤ most_open) (end : ℕ) (e : Ok end ≡ step_of (value_at s depth at)) where
    pub there_is_head : (head : Option Head) → head ≡ peek_at s at → IsSome head
    there_is_head head f =
        let r = step-to (value_at s depth at) end e in
        subst IsSome ((placement s depth at room r.0 end r.1).peeked ∙ sym f) refl

    pub read_head : (head : Head) → Some head ≡ peek_at s at → returned (record { head = head; end = end }) ≡ tell_value (value_at s depth at)
    read_head head f =
        let r = step-to (value_at s depth at) end e in
        let h : head ≡ head_of r.0 end = cc (f ∙ sym (placement s depth at room r.0 end r.1).peeked) in
        rw (r.1, h)

  pub read-stopped : (fault : Fault) → Err fault ≡ step_of (value_at s depth at) → refused (number_of fault.refusal) fault.place ≡ tell_value (value_at s depth at)
  read-stopped fault e = rw (step-refused (value_at s depth at) fault e)

-- ---- from the value at offset 0 to the message
ends : (v : Value) (p : ℕ) (f : Found) → returned f ≡ returned (found_at p v) → p ≡ f.end
ends v p f e = let g : f ≡ found_at p v = cc e in sym (ap (λ (x : Found). x.end) g)

module _ (s : List ℕ) where
  -- what was told of the value tells of the message: it is the whole, or bytes are left over, or it is refused
  pub message-whole : (g : Parse Value) (f : Found) → returned f ≡ tell_value g → f.end ≡ length s
      → tell_value g ≡ tell_message s (answer_of (whole (length s) g))
  message-whole (parsed v p) f e h =
      let i : p ≡ length s = ends v p f e ∙ h in
      rw (eq-eqb p (length s) i) (ap (λ (n : ℕ). returned (found_at n v)) i)
  message-whole (failed why place) f e h = cc e

  pub message-trailing : (g : Parse Value) (f : Found) → returned f ≡ tell_value g → (f.end ≡ length s → ⊥)
      → refused 13 f.end ≡ tell_message s (answer_of (whole (length s) g))
  message-trailing (parsed v p) f e h =
      let i : p ≡ f.end = ends v p f e in
      rw (ne_eqb p (length s) (λ j. h (sym i ∙ j))) (ap (λ (n : ℕ). refused 13 n) (sym i))
  message-trailing (failed why place) f e h = cc e

  pub message-refused : (g : Parse Value) (number place : ℕ) → refused number place ≡ tell_value g
      → refused number place ≡ tell_message s (answer_of (whole (length s) g))
  message-refused (parsed v end) number place e = cc e
  message-refused (failed why q) number place e = e

  pub message-is : answer_of (whole (length s) (value_in s most_open 0)) ≡ decode s
  unfolding message_of
  message-is = refl

-- ---- for callers: what the answers tell of the message, and what the message tells of its bytes
module _ (s : List ℕ) where
  -- a value was told: it is the message's, with its head, and ends where the message does
  pub told-value : (f : Found) → returned f ≡ tell_message s (decode s) → (v : Value) × (decode s ≡ returned v) × (f ≡ found_at (length s) v)
  told-value f e = by (decode s) refl e
    where
      by : (a : Answer Value) → decode s ≡ a → returned f ≡ tell_message s a → (v : Value) × (decode s ≡ returned v) × (f ≡ found_at (length s) v)
      by (returned v) g e = (v, g, cc e)
      by (refused number place) g e = cc e

  -- a refusal was told: it is the message's
  pub told-refusal : (number place : ℕ) → refused number place ≡ tell_message s (decode s) → decode s ≡ refused number place
  told-refusal number place e = by (decode s) refl e
    where
      by : (a : Answer Value) → decode s ≡ a → refused number place ≡ tell_message s a → decode s ≡ refused number place
      by (returned v) g e = cc e
      by (refused n p) g e = let a : number ≡ n = cc e in let b : place ≡ p = cc e in rw (a, b) g

  -- a message is not too long, and its value is read from its first byte to its last
  pub decode-reads : (v : Value) → decode s ≡ returned v → (length s ≤ most_bytes) × Reads s most_open 0 v (length s)
  unfolding message_of value_in
  decode-reads v e = by_length (ltb most_bytes (length s)) refl e
    where
      by_end : (g : Parse Value) → answer_of (whole (length s) g) ≡ returned v → g ≡ parsed v (length s)
      by_end (failed why place) e = cc e
      by_end (parsed w end) e = by (eqb end (length s)) refl e
        where
          by : (t : Bool) → eqb end (length s) ≡ t → answer_of (cond t (parsed w end) (failed TrailingBytes end)) ≡ returned v → parsed w end ≡ parsed v (length s)
          by true f e = let a : w ≡ v = cc e in rw (a, eqb-true end (length s) f)
          by false f e = cc e

      by_length : (t : Bool) → ltb most_bytes (length s) ≡ t → answer_of (whole (length s) (cond t (failed TooLong 0) (value_at s most_open 0))) ≡ returned v
          → (length s ≤ most_bytes) × Reads s most_open 0 v (length s)
      by_length true f e = cc e
      by_length false f e = (ltb-false most_bytes (length s) f, by_end (value_at s most_open 0) e)

  -- and back
  pub reads-decode : length s ≤ most_bytes → (v : Value) → Reads s most_open 0 v (length s) → decode s ≡ returned v
  unfolding message_of value_in
  reads-decode h v e = rw (le-ltb most_bytes (length s) h, e, eq-eqb (length s) (length s) refl)
