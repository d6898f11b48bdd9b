-- Laws of the lines that are written. Assumes nothing.
use mathlib.Core.Path.{◌≡◌, refl, sym, ap, ◌∙◌}
use mathlib.Core.List.{List, [], ◌∷◌, ◌++◌, append_assoc, append-nil}
use Prim.Native.Nat.{ℕ, ◌+◌, ◌-◌, ◌*◌, ◌≤◌, ◌<◌}
use native.Mathlib.Nat.{zero-add}
use native.Mathlib.Omega.{arith}
use lib.ListN.{length, take, drop, set, length-append, length-drop, drop_of_length-le}
use lib.Seq.{sets, length-sets, sets-eq, drop-drop, length-take-le, take_all, take_at}
use Rattle.slices.specs.Parts.{front}
use Rattle.slices.proofs.Parts.{sets-append}
use Rattle.std.specs.Prelude.{Result, Ok, Err}
use Rattle.refusal.specs.Answer.{Answer, returned, counted, left, told}
use Rattle.refusal.specs.declared.Refusal.{Refusal}
use Rattle.hex_lines.specs.Hex.{to_digits, encoding}
use Rattle.hex_lines.proofs.Lines.{clash, length_digits, written as written-digits}
use Rattle.framing.specs.Chunking.{chunk_of, end as last_chunk, chunked, writing}
use Rattle.framing.proofs.Chunking.{length-chunk, single, written as writes}
use Rattle.packing.proofs.Packing.{Packs, packed-there}
use Rattle.summaries.specs.Summaries.{pack_summary}
use Rattle.summaries.proofs.SummaryForms.{sized}
use Rattle.states.specs.declared.answers.Summary.{Summary}
use Rattle.session.specs.Text.{line_text, text}
use Rattle.session.specs.Session.{summary_line}

-- ---- one line
pub length-line : (v : List ℕ) → length (line_text v) ≡ 2 * length v + 1
unfolding line_text
length-line v = length-append (to_digits v) (0x0A ∷ []) ∙ ap (λ (n : ℕ). n + 1) (length_digits v)

-- what a writer answers where it does not refuse
pub told-ok : {n : ℕ} (r : Result ℕ Refusal) → told r ≡ returned n → r ≡ Ok n
told-ok (Ok m) e = cc
told-ok (Err why) e = absurd (clash (cc))

module _ (d v : List ℕ) (at : ℕ) (room : at + (2 * length v + 1) ≤ length d) where
  -- the digits go into all that stands behind `at`
  abbrev k : ℕ
  k = length d - at

  abbrev part : List ℕ
  part = take k (drop at d)

  has_room : encoding (length part) v ≡ returned (to_digits v)
  has_room = written-digits (length part) v (omega (arith, length-drop at d, length-take-le k (drop at d) (omega (arith, length-drop at d))))

  pub encodes : (r : Result ℕ Refusal) → told r ≡ counted (encoding (length part) v) → r ≡ Ok (2 * length v)
  encodes r e = told-ok r (e ∙ ap counted has_room ∙ ap returned (length_digits v))

  digits-put : (ys : List ℕ) → ys ≡ left front (encoding (length part) v) part → take at d ++ (ys ++ drop k (drop at d)) ≡ sets d at (to_digits v)
  digits-put ys w =
      let p : part ≡ drop at d = take_all k (drop at d) (omega (arith, length-drop at d)) in
      let z : drop k (drop at d) ≡ [] = drop_of_length-le (drop at d) (omega (arith, length-drop at d)) in
      let y : ys ≡ to_digits v ++ drop (at + length (to_digits v)) d =
      w ∙ ap (λ (a : Answer (List ℕ)). left front a part) has_room ∙ ap (λ (l : List ℕ). to_digits v ++ drop (length (to_digits v)) l) p
      ∙ ap (λ (l : List ℕ). to_digits v ++ l) (drop-drop (length (to_digits v)) at d) in
      (λ i. take at d ++ (y i ++ z i)) ∙ ap (λ (l : List ℕ). take at d ++ l) (append-nil (to_digits v ++ drop (at + length (to_digits v)) d))
      ∙ sym (append_assoc (take at d) (to_digits v) (drop (at + length (to_digits v)) d)) ∙ sym (sets-eq (to_digits v) d at (omega (arith, length_digits v)))

  -- and the line's end stands behind them
  module _ (ys : List ℕ) (w : ys ≡ left front (encoding (length part) v) part) where
    pub end-inside : at + 2 * length v < length (take at d ++ (ys ++ drop k (drop at d)))
    end-inside = omega (arith, ap length (digits-put ys w), length-sets d at (to_digits v))

    pub line-put : set (take at d ++ (ys ++ drop k (drop at d))) (at + 2 * length v) 0x0A ≡ sets d at (line_text v)
    unfolding line_text
    line-put = (λ i. set (digits-put ys w i) (at + sym (length_digits v) i) 0x0A) ∙ sets-append (to_digits v) (0x0A ∷ []) d at

-- ---- several lines
pub text-append : (v w : List (List ℕ)) → text (v ++ w) ≡ text v ++ text w
unfolding text
text-append [] w = refl
text-append (l ∷ v) w = ap (λ (t : List ℕ). line_text l ++ t) (text-append v w) ∙ sym (append_assoc (line_text l) (text v) (text w))

pub text-one : (v : List ℕ) → text (v ∷ []) ≡ line_text v
unfolding text
text-one v = append-nil (line_text v)

pub length-one : (v : List ℕ) → length (text (v ∷ [])) ≡ 2 * length v + 1
length-one v = ap length (text-one v) ∙ length-line v

pub length_none : length (text []) ≡ 0
unfolding text
length_none = refl

-- ---- a summary's bytes
module _ (s : Summary) (d e : List ℕ) (r : Result ℕ Refusal) (p : Packs d 0 (returned (pack_summary s)) r e) (room : 60 ≤ length d) where
  there : (r ≡ Ok (0 + length (pack_summary s))) × (e ≡ sets d 0 (pack_summary s))
  there = let h = (sized s).high in packed-there d 0 (returned (pack_summary s)) r e (pack_summary s) p refl (omega arith)

  pub packed : r ≡ Ok (length (pack_summary s))
  packed = there.0 ∙ ap Ok (zero-add (length (pack_summary s)))

  module _ (n : ℕ) (q : r ≡ Ok n) where
    pub packed-size : n ≡ length (pack_summary s)
    packed-size = let k : Ok n ≡ Ok (length (pack_summary s)) = sym q ∙ packed in cc

    pub packed-fits : n ≤ length d
    packed-fits = let h = (sized s).high in omega (arith, packed-size)

    pub packed-bytes : take n e ≡ pack_summary s
    packed-bytes =
        let v = pack_summary s in
        let h = (sized s).high in
        ap (take n) (there.1 ∙ sets-eq v d 0 (omega arith)) ∙ take_at v (drop (0 + length v) d) n (sym packed-size)

-- ---- in one chunk
module _ (s : Summary) where
  one_chunk : chunked 80 (pack_summary s) ≡ summary_line s
  one_chunk = let h = (sized s).high in let l = (sized s).low in single 80 (pack_summary s) (omega arith) (omega arith)

  line-length : length (summary_line s) ≡ length (pack_summary s) + 4
  line-length = length-append (chunk_of (pack_summary s)) last_chunk ∙ ap (λ (n : ℕ). n + 2) (length-chunk (pack_summary s)) ∙ omega arith

  module _ (m d e : List ℕ) (r : Result ℕ Refusal) (is : m ≡ pack_summary s) (t : told r ≡ counted (writing 80 (length d) m)) (w : e ≡ left front (writing 80 (length d) m) d) (room : 64 ≤ length d) where
    is-written : writing 80 (length d) m ≡ returned (summary_line s)
    is-written =
        let h = (sized s).high in
        let l = (sized s).low in
        ap (writing 80 (length d)) is
        ∙ writes 80 (length d) (pack_summary s) (λ z. omega (arith, z, l)) (λ z. omega (arith, z)) (omega arith) (omega arith) (omega (arith, ap length one_chunk, line-length))
        ∙ ap returned one_chunk

    pub chunked-ok : r ≡ Ok (length (summary_line s))
    chunked-ok = told-ok r (t ∙ ap counted is-written)

    module _ (n : ℕ) (q : r ≡ Ok n) where
      chunk-size : n ≡ length (summary_line s)
      chunk-size = let k : Ok n ≡ Ok (length (summary_line s)) = sym q ∙ chunked-ok in cc

      pub chunk-fits : n ≤ length d
      chunk-fits = let h = (sized s).high in omega (arith, chunk-size, line-length)

      pub chunk_bytes : take n e ≡ summary_line s
      chunk_bytes = ap (take n) (w ∙ ap (λ (a : Answer (List ℕ)). left front a d) is-written) ∙ take_at (summary_line s) (drop (length (summary_line s)) d) n (sym chunk-size)

-- ---- how long a summary's line is
pub summary-length : (s : Summary) → length (line_text (summary_line s)) ≡ 2 * (length (pack_summary s) + 4) + 1
summary-length s =
    length-line (summary_line s)
    ∙ ap (λ (n : ℕ). 2 * n + 1) (length-append (chunk_of (pack_summary s)) last_chunk ∙ ap (λ (n : ℕ). n + 2) (length-chunk (pack_summary s)) ∙ omega arith)
