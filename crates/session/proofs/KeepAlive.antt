-- A keep-alive changes nothing: the theorem `keep-alives`. Assumes nothing.
use Prim.Native.Nat.{ℕ}
use mathlib.Core.Bool.{Bool, true, cond}
use mathlib.Core.List.{List, []}
use mathlib.Core.Path.{◌≡◌, refl, sym, ap, ◌∙◌}
use native.Mathlib.Omega.{arith}
use lib.ListN.{length}
use borrow.Author.Tests.{le-ltb}
use Rattle.refusal.specs.Answer.{returned}
use Rattle.numbers.specs.BigEndian.{big_endian}
use Rattle.hex_lines.specs.Hex.{is_line, all_digits, is_digit, to_bytes, value_of}
use Rattle.handshake.specs.declared.version.Version.{Version}
use Rattle.handshake.specs.Version.{keeps_alive}
use Rattle.framing.specs.Feed.{keep-alive, feed}
use Rattle.bolt.specs.Limits.{most_bytes}
use Rattle.framing.specs.Reading.{frame_of}
use Rattle.session.specs.declared.phase.Phase.{Phase}
use Rattle.session.specs.declared.phase.Phase.TheVariants.{Open}
use Rattle.session.specs.Receiving.{Brought, nothing, refusal, framed, brought_in}
use Rattle.session.specs.declared.phase.Session.{Session}
use Rattle.session.specs.Session.{replying, answering, in_phase, next_of}
use Rattle.session.specs.KeepAlive.{unmoved, empty, Claim}

module _ (s : Session) (v : Version) (begun : s.phase ≡ Open v) where
  -- a line that brings nothing
  quiet : (line : List ℕ) → brought_in most_bytes v.minor line ≡ nothing → next_of s line ≡ unmoved s
  unfolding next_of replying
  quiet line e =
      ap (λ (p : Phase). in_phase p s.connection line) begun
      ∙ ap (λ (b : Brought). replying (Open v) [] (answering s.connection b)) e
      ∙ ap (λ (p : Phase). record { lines = []; goes_on = true; session = record { phase = p; connection = s.connection } }) (sym begun)

  alone : (line : List ℕ) → is_line line ≡ true → frame_of (keeps_alive v.minor) most_bytes (to_bytes line) ≡ returned (keep-alive (length (to_bytes line)))
      → brought_in most_bytes v.minor line ≡ nothing
  unfolding brought_in
  alone line l f =
      let n = length (to_bytes line) in
      (λ i. cond (l i) (framed v.minor n (f i)) (refusal 23)) ∙ ap (λ (b : Bool). cond b (refusal 23) nothing) (le-ltb n n (omega arith))

empty-line : is_line empty ≡ true
unfolding is_line all_digits is_digit
empty-line = refl

empty-frame : (alive : Bool) → alive ≡ true → frame_of alive most_bytes (to_bytes empty) ≡ returned (keep-alive (length (to_bytes empty)))
unfolding to_bytes value_of frame_of feed big_endian
empty-frame alive e = ap (λ (b : Bool). frame_of b most_bytes (to_bytes empty)) e

pub keep-alives : Claim
keep-alives s v = record {
  no_call = alone s v;
  silent = λ begun line l f. quiet s v begun line (alone s v begun line l f);
  zeros = λ begun k. quiet s v begun empty (alone s v begun empty empty-line (empty-frame (keeps_alive v.minor) k));
}
