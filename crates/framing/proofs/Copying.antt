-- The copy of a message that the scan has found: each header leads on to the next, and the message grows in front of the buffer.
-- Assumes nothing.
use mathlib.Core.Path.{◌≡◌, refl, sym, ap, ◌∙◌, subst}
use mathlib.Core.Logic.{⊎_elim}
use mathlib.Core.List.{List, [], ◌++◌}
use mathlib.Core.Bool.{Bool, true, false}
use Prim.Native.Nat.{ℕ, ◌+◌, ◌-◌, ◌≤◌}
use native.Mathlib.Nat.{eq-zero-or-pos}
use native.Mathlib.Omega.{arith}
use lib.ListN.{length}
use lib.Seq.{sets}
use Rattle.slices.specs.Parts.{part, front, copied}
use Rattle.slices.proofs.Tests.{lt-or-ge}
use Rattle.slices.proofs.Parts.{length_part, sets-front, fits-yes}
use Rattle.numbers.specs.BigEndian.{big_endian}
use Rattle.refusal.specs.Answer.{Answer, refused, left}
use Rattle.framing.specs.Feed.{Reading, ended}
use Rattle.bolt.specs.Limits.{most_bytes}
use Rattle.framing.specs.Reading.{frame_of, leaves}
use Rattle.framing.specs.Private.Copying.{IsMessage}
use Rattle.framing.proofs.Scanning.{Came, came-none, at-few, at-message, at_none, at_long, at_room, at_cut, at_next}

-- what has come of the message stands in front of what the buffer held
pub record Copied (alive : Bool) (s d₀ d : List ℕ) (at sum : ℕ) : Type 0 where
  pub came : Came alive (length d₀) s at sum
  pub holds : d ≡ front came.got d₀

pub copied_none : (alive : Bool) (s d : List ℕ) → Copied alive s d d 0 0
unfolding came-none
copied_none alive s d = record { came = came-none alive (length d) s; holds = refl }

none-no-message : (alive : Bool) (used : ℕ) → IsMessage (ended alive [] used) → ⊥
none-no-message true used p = p
none-no-message false used p = p

module _ {alive : Bool} {s d₀ d : List ℕ} {at sum : ℕ} (w : Copied alive s d₀ d at sum) (whole : IsMessage (frame_of alive (length d₀) s)) where
  not-refused : (number : ℕ) → frame_of alive (length d₀) s ≡ refused number 0 → ⊥
  not-refused number e = subst IsMessage e whole

  -- the next header is there
  pub message-header : at + 2 ≤ length s
  message-header = ⊎_elim (λ h. absurd (not-refused 4 (at-few w.came h))) (λ h. omega arith) (lt-or-ge (length s - at) 2)

  module _ {n : ℕ} (size : n ≡ big_endian (part s at 2)) where
    -- at its end the message stands in front of the buffer
    pub message-end : n ≡ 0 → d ≡ left leaves (frame_of alive (length d₀) s) d₀
    message-end e =
        ⊎_elim
        (λ h. absurd (none-no-message alive (at + 2) (subst IsMessage (at_none w.came message-header size e h) whole)))
        (λ h. w.holds ∙ sym (ap (λ (a : Answer Reading). left leaves a d₀) (at-message w.came message-header size e h)))
        (eq-zero-or-pos sum)

    module _ (more : n ≡ 0 → ⊥) where
      pub message-small : sum + n ≤ most_bytes
      message-small = ⊎_elim (λ h. absurd (not-refused 6 (at_long w.came message-header size more h))) (λ h. h) (lt-or-ge most_bytes (sum + n))

      pub message-room : sum + n ≤ length d₀
      message-room =
          ⊎_elim (λ h. absurd (not-refused 21 (at_room w.came message-header size more message-small h))) (λ h. h) (lt-or-ge (length d₀) (sum + n))

      pub message-bytes : n ≤ length s - at - 2
      message-bytes =
          ⊎_elim (λ h. absurd (not-refused 4 (at_cut w.came message-header size more message-small message-room h))) (λ h. h)
          (lt-or-ge (length s - at - 2) n)

      -- the chunk lies inside the input
      pub message-inside : at + 2 + n ≤ length s
      message-inside = omega (arith, message-header, message-bytes)

      -- a chunk more, copied behind what has come
      pub message-next : length d ≡ length d₀ → Copied alive s d₀ (copied s (at + 2) n d sum) (at + (n + 2)) (sum + n)
      unfolding at_next
      message-next k =
          let v : List ℕ = part s (at + 2) n in
          let l : length v ≡ n = length_part s (at + 2) n message-inside in
          let r : length w.came.got + length v ≤ length d₀ = omega (arith, w.came.count, l, message-room) in
          let f : sets d sum v ≡ front (w.came.got ++ v) d₀ =
          rw (w.holds, ← w.came.count) (sets-front w.came.got v d₀ r) in
          record {
            came = at_next w.came message-header size more message-small message-room message-bytes;
            holds = rw (fits-yes s (at + 2) n d sum message-inside (omega (arith, k, message-room))) f;
          }
