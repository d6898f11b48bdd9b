-- Laws of what a line brings: the bytes of a line, the handshake and the frame among them, and any room for the message. Assumes nothing.
use mathlib.Core.Path.{◌≡◌, refl, sym, ap, ◌∙◌}
use mathlib.Core.Logic.{◌⊎◌, inl, inr}
use mathlib.Core.Bool.{Bool, true, false, cond, and-eq-true_iff}
use mathlib.Core.List.{List}
use Prim.Native.Nat.{ℕ, ◌/◌, ◌≤◌, ◌<◌}
use native.Mathlib.Omega.{arith}
use lib.Dec.{leb}
use lib.ListN.{length, take, drop}
use lib.Seq.{take_at}
use borrow.Author.Tests.{leb-true}
use Rattle.slices.specs.Parts.{front}
use Rattle.std.specs.Prelude.{Option, Some, None}
use Rattle.states.specs.declared.request.Request.{Request}
use Rattle.refusal.specs.Answer.{Answer, returned, refused, counted, left}
use Rattle.hex_lines.specs.Hex.{is_line, to_bytes, decoding}
use Rattle.hex_lines.proofs.Lines.{clash, no_line, read, line-long}
use Rattle.handshake.specs.Version.{keeps_alive}
use Rattle.handshake.specs.Negotiation.{negotiated}
use Rattle.bolt.specs.Limits.{most_bytes}
use Rattle.framing.specs.Reading.{frame_of}
use Rattle.session.specs.Receiving.{alone, handshake_in, Brought, nothing, request, refusal, framed, brought_in}
use Rattle.session.specs.Private.Receiving.{bringing}
use Rattle.framing.proofs.Rooms.{frame-alike}

-- ---- the bytes of a line
line-short : (s : List ℕ) → is_line s ≡ true → length s ≤ 40000
unfolding is_line
line-short s l = leb-true (length s) 40000 ((and-eq-true_iff (leb (length s) 40000) _).0 l).0

-- a buffer that holds the bytes of any line
pub enough : (s : List ℕ) (room : ℕ) → 20000 ≤ room → is_line s ≡ true → length s / 2 ≤ room
enough s room h l = omega (arith, line-short s l)

module _ (s : List ℕ) (room : ℕ) (holds : is_line s ≡ true → length s / 2 ≤ room) where
  by-line : {P : Type 0} → (is_line s ≡ true → decoding room s ≡ returned (to_bytes s) → P) → (is_line s ≡ false → decoding room s ≡ refused 23 0 → P) → P
  by-line {P} when otherwise = by (is_line s) refl
    where
      by : (b : Bool) → is_line s ≡ b → P
      by true l = when l (read room s l (holds l))
      by false l = otherwise l (no_line room s l)

  pub is-line : (n : ℕ) → returned n ≡ counted (decoding room s) → is_line s ≡ true
  is-line n e = by-line (λ l d. l) (λ l d. absurd (clash (let k : returned n ≡ counted (refused 23 0) = e ∙ ap counted d in cc)))

  pub is_none : (n : ℕ) → refused n 0 ≡ counted (decoding room s) → is_line s ≡ false
  is_none n e = by-line (λ l d. absurd (clash (let k : refused n 0 ≡ counted (returned (to_bytes s)) = e ∙ ap counted d in cc))) (λ l d. l)

  -- its bytes stand in front of the buffer
  pub its-bytes : (d d' : List ℕ) (n : ℕ) → returned n ≡ counted (decoding room s) → d' ≡ left front (decoding room s) d → take n d' ≡ to_bytes s
  its-bytes d d' n e w = by-line held (λ l k. absurd (clash (let z : returned n ≡ counted (refused 23 0) = e ∙ ap counted k in cc)))
    where
      held : is_line s ≡ true → decoding room s ≡ returned (to_bytes s) → take n d' ≡ to_bytes s
      held l k =
          let z : returned n ≡ counted (returned (to_bytes s)) = e ∙ ap counted k in
          let m : n ≡ length (to_bytes s) = cc in
          ap (take n) (w ∙ ap (λ (a : Answer (List ℕ)). left front a d) k) ∙ take_at (to_bytes s) (drop (length (to_bytes s)) d) n (sym m)

  -- what is refused is no line
  pub refused-23 : (n : ℕ) → refused n 0 ≡ counted (decoding room s) → n ≡ 23
  refused-23 n e = let k : refused n 0 ≡ counted (refused 23 0) = e ∙ ap counted (no_line room s (is_none n e)) in cc

-- what the handshake is, by whether the line is one
pub handshake-line : (s bytes : List ℕ) → is_line s ≡ true → bytes ≡ to_bytes s → alone (length bytes) (negotiated bytes) ≡ handshake_in s
unfolding handshake_in
handshake-line s bytes l e =
    ap (λ (v : List ℕ). alone (length v) (negotiated v)) e ∙ sym (ap (λ (b : Bool). cond b (alone (length (to_bytes s)) (negotiated (to_bytes s))) (refused 23 0)) l)

pub handshake-none : (s : List ℕ) → is_line s ≡ false → refused 23 0 ≡ handshake_in s
unfolding handshake_in
handshake-none s l = sym (ap (λ (b : Bool). cond b (alone (length (to_bytes s)) (negotiated (to_bytes s))) (refused 23 0)) l)

-- ---- what a line brings
module _ (room minor : ℕ) (s : List ℕ) where
  brought-by : {b : Bool} → is_line s ≡ b → cond b (framed minor (length (to_bytes s)) (frame_of (keeps_alive minor) room (to_bytes s))) (refusal 23) ≡ brought_in room minor s
  unfolding brought_in
  brought-by l = sym (ap (λ (b : Bool). cond b (framed minor (length (to_bytes s)) (frame_of (keeps_alive minor) room (to_bytes s))) (refusal 23)) l)

  pub brought-line : (bytes : List ℕ) → is_line s ≡ true → bytes ≡ to_bytes s → framed minor (length bytes) (frame_of (keeps_alive minor) room bytes) ≡ brought_in room minor s
  brought-line bytes l e = ap (λ (v : List ℕ). framed minor (length v) (frame_of (keeps_alive minor) room v)) e ∙ brought-by l

  pub brought-none : is_line s ≡ false → refusal 23 ≡ brought_in room minor s
  brought-none l = brought-by l

  pub brought-long : 40000 < length s → refusal 23 ≡ brought_in room minor s
  brought-long h = brought-none (line-long s h)

-- a short line that does not ask for more room brings the same with more
pub brought-alike : (room minor : ℕ) (s : List ℕ) (b : Brought) → room ≤ most_bytes → b ≡ brought_in room minor s → (b ≡ refusal 21 → ⊥) → b ≡ brought_in most_bytes minor s
unfolding brought_in
brought-alike room minor s b h e other = by (is_line s) e
  where
    v : List ℕ
    v = to_bytes s

    frames : (frame_of (keeps_alive minor) room v ≡ refused 21 0) ⊎ (frame_of (keeps_alive minor) room v ≡ frame_of (keeps_alive minor) most_bytes v)
        → b ≡ framed minor (length v) (frame_of (keeps_alive minor) room v) → b ≡ framed minor (length v) (frame_of (keeps_alive minor) most_bytes v)
    frames (inl x) k = absurd (other (k ∙ ap (framed minor (length v)) x))
    frames (inr x) k = k ∙ ap (framed minor (length v)) x

    by : (t : Bool) → b ≡ cond t (framed minor (length v) (frame_of (keeps_alive minor) room v)) (refusal 23)
        → b ≡ cond t (framed minor (length v) (frame_of (keeps_alive minor) most_bytes v)) (refusal 23)
    by true k = frames (frame-alike (keeps_alive minor) room most_bytes h v) k
    by false k = k

-- what is brought is no refusal
pub brought-ok : (o : Option Request) → bringing (returned o) ≡ refusal 21 → ⊥
brought-ok None e = clash (let k : nothing ≡ refusal 21 = e in cc)
brought-ok (Some r) e = clash (let k : request r ≡ refusal 21 = e in cc)
