-- Writing an output piece by piece to the front of a buffer. Assumes nothing.
use mathlib.Core.Path.{◌≡◌, refl, sym, ap, ◌∙◌}
use mathlib.Core.List.{List, [], ◌++◌, append_assoc, append-nil}
use Prim.Native.Nat.{ℕ, ◌+◌, ◌≤◌}
use native.Mathlib.Omega.{arith}
use lib.ListN.{length, length-append}
use lib.Seq.{sets}
use Rattle.slices.specs.Parts.{front}
use Rattle.slices.proofs.Parts.{sets-front}

-- of the output, all but the rest stands in front of what the buffer held
pub record Put (output before buffer : List ℕ) (to : ℕ) (rest : List ℕ) : Type 0 where
  pub done : List ℕ
  pub count : length done ≡ to
  pub holds : buffer ≡ front done before
  pub whole : output ≡ done ++ rest

pub put-none : (output d : List ℕ) → Put output d d 0 output
put-none output d = record { done = []; count = refl; holds = refl; whole = refl }

module _ {output d₀ d : List ℕ} {to : ℕ} (v rest : List ℕ) (w : Put output d₀ d to (v ++ rest)) where
  -- there is room for the next piece
  pub put-fits : to + length v ≤ length output
  put-fits = omega (arith, w.count, simp length-append at (ap length w.whole))

  -- the next piece, stored where the last one ended
  pub put_next : length output ≤ length d₀ → Put output d₀ (sets d to v) (to + length v) rest
  put_next room =
      let r : length w.done + length v ≤ length d₀ = omega (arith, w.count, put-fits, room) in
      record {
        done = w.done ++ v;
        count = length-append w.done v ∙ ap (λ (n : ℕ). n + length v) w.count;
        holds = rw (w.holds, ← w.count) (sets-front w.done v d₀ r);
        whole = w.whole ∙ sym (append_assoc w.done v rest);
      }

-- nothing is left
pub put-done : {output d₀ d : List ℕ} {to : ℕ} → Put output d₀ d to [] → d ≡ front output d₀
put-done {output} {d₀} w = w.holds ∙ ap (λ (l : List ℕ). front l d₀) (sym (w.whole ∙ append-nil w.done))
