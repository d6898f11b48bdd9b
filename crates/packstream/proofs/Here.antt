-- From an offset on a message is a list that is known: what is read there. Assumes nothing.
use mathlib.Core.Path.{◌≡◌, sym, ap, ◌∙◌}
use mathlib.Core.List.{List, [], ◌∷◌, ◌++◌, append_assoc, append-nil}
use Prim.Native.Nat.{ℕ, ◌+◌, ◌≤◌, ◌<◌}
use native.Mathlib.Omega.{arith}
use lib.ListN.{length, get_or, drop, length-append, length-drop}
use lib.Seq.{drop-drop, drop-append_seam, take-append_seam, get_or-drop}
use Rattle.slices.specs.Parts.{part}

pub record Here (s : List ℕ) (at : ℕ) (v after : List ℕ) : Type 0 where
  pub offset : at ≤ length s
  pub rest : drop at s ≡ v ++ after

pub here : (before v after : List ℕ) → Here (before ++ (v ++ after)) (length before) v after
here before v after =
    record { offset = omega (arith, length-append before (v ++ after)); rest = drop-append_seam before (v ++ after) }

pub here-alone : (v : List ℕ) → Here v 0 v []
here-alone v = record { offset = omega arith; rest = sym (append-nil v) }

module _ {s : List ℕ} {at : ℕ} {v after : List ℕ} (h : Here s at v after) where
  -- it lies inside, and is what is read there
  pub here-room : at + length v ≤ length s
  here-room = omega (arith, h.offset, sym (length-drop at s) ∙ ap length h.rest, length-append v after)

  pub here-part : part s at (length v) ≡ v
  here-part = rw h.rest (take-append_seam v after)

-- one behind the other
module _ {s : List ℕ} {at : ℕ} (u v : List ℕ) {after : List ℕ} (h : Here s at (u ++ v) after) where
  pub here-front : Here s at u (v ++ after)
  here-front = record { offset = h.offset; rest = h.rest ∙ append_assoc u v after }

  pub here_back : Here s (at + length u) v after
  here_back =
      record {
        offset = here-room here-front;
        rest = sym (drop-drop (length u) at s) ∙ ap (drop (length u)) here-front.rest ∙ drop-append_seam u (v ++ after);
      }

-- the first byte
module _ {s : List ℕ} {at b : ℕ} {v after : List ℕ} (h : Here s at (b ∷ v) after) where
  pub here-inside : at < length s
  here-inside = omega (arith, here-room h)

  pub here-first : get_or s at 0 ≡ b
  here-first =
      let z : at + 0 ≡ at = omega arith in
      ap (λ (i : ℕ). get_or s i 0) (sym z) ∙ sym (get_or-drop at s 0 0) ∙ ap (λ (l : List ℕ). get_or l 0 0) h.rest

  pub here-behind : Here s (at + 1) v after
  here-behind = here_back (b ∷ []) v h
