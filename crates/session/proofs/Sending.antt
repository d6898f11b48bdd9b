-- Laws of serving while the summaries are written: what is left to send goes behind what stands there. Assumes nothing.
use mathlib.Core.Path.{◌≡◌, refl, sym, ap, ◌∙◌, subst}
use mathlib.Core.List.{List, ◌++◌}
use Prim.Native.Nat.{ℕ, suc, ◌+◌, ◌≤◌}
use native.Mathlib.Nat.{zero-add}
use native.Mathlib.Omega.{arith}
use lib.ListN.{length, length-append}
use lib.Seq.{sets, length-sets}
use Rattle.slices.proofs.Parts.{sets-append}
use Rattle.refusal.specs.Answer.{Answer}
use Rattle.states.specs.declared.answers.Summary.{Summary}
use Rattle.states.specs.declared.request.Request.{Request}
use Rattle.states.specs.Table.{Said}
use Rattle.record.specs.Calls.{arrive_of}
use Rattle.record.specs.declared.record.Connection.{Connection}
use Rattle.std.specs.Prelude.{Result}
use Rattle.refusal.specs.declared.Refusal.{Refusal}
use Rattle.serving.specs.declared.Ending.{Ending}
use Rattle.serving.specs.Serving.{Serving, stopped, sending, turn_of, following, serving, turns, served, idle, end_of}
use Rattle.serving.proofs.Turns.{stepped}
use Rattle.session.specs.declared.reply.Reply.{Reply}
use Rattle.session.specs.Text.{line_text, text}
use Rattle.session.specs.Session.{summary_line}
use Rattle.session.specs.Private.Replies.{sent, leaving, Sends}

-- with the lines of w at `at`, d holds all of w₀'s
pub record Writes (w₀ w : Serving) (d₀ d : List ℕ) (at : ℕ) : Type 0 where
  pub connection : w.connection ≡ w₀.connection
  pub end : w.end ≡ w₀.end
  pub size : length d ≡ length d₀
  pub holds : sets d at (sent w) ≡ sets d₀ 0 (sent w₀)
  pub ends : at + length (sent w) ≡ length (sent w₀)

pub writes-none : (w : Serving) (d : List ℕ) → Writes w w d d 0
writes-none w d = record { connection = refl; end = refl; size = refl; holds = refl; ends = zero-add (length (sent w)) }

-- one turn more, by the record that it leaves and by its answer
pub writes-turn : {w₀ : Serving} {d₀ d : List ℕ} {at : ℕ} (n m : ℕ) (c after : Connection) (x : Answer Said) → Writes w₀ (serving n c) d₀ d at → n ≡ suc m → after ≡ (turn_of c).connection → x ≡ (turn_of c).answer
    → Writes w₀ (following x after (serving m after)) d₀ d at
writes-turn {w₀} {d₀} {d} {at} n m c after x w e p q =
    let t : serving n c ≡ following x after (serving m after) =
    ap (λ (k : ℕ). serving k c) e ∙ stepped m c (turn_of c) x refl (sym q) ∙ ap (λ (k : Connection). following x k (serving m k)) (sym p) in
    subst (λ (v : Serving). Writes w₀ v d₀ d at) t w

-- no more turns
pub writes-over : {w₀ : Serving} {d₀ d : List ℕ} {at : ℕ} (n : ℕ) (c : Connection) → n ≤ 0 → Writes w₀ (serving n c) d₀ d at → Writes w₀ (stopped idle c) d₀ d at
unfolding serving
writes-over {w₀} {d₀} {d} {at} n c h w = let z : n ≡ 0 = omega arith in subst (λ (m : ℕ). Writes w₀ (serving m c) d₀ d at) z w

-- a summary's line
module _ {w₀ : Serving} {d₀ d : List ℕ} {at : ℕ} (s : Summary) (later : Serving) (w : Writes w₀ (sending s later) d₀ d at) where
  abbrev line : List ℕ
  line = line_text (summary_line s)

  first-line : sent (sending s later) ≡ line ++ sent later
  unfolding text
  first-line = refl

  sizes : length (sent (sending s later)) ≡ length line + length (sent later)
  sizes = ap length first-line ∙ length-append line (sent later)

  pub writes-fits : length (sent w₀) ≤ length d₀ → at + length line ≤ length d
  writes-fits room = omega (arith, w.ends, w.size, sizes)

  pub writes-next : (e : List ℕ) (n : ℕ) → n ≡ at + length line → e ≡ sets d at line → Writes w₀ later d₀ e n
  writes-next e n p q = record {
    connection = w.connection;
    end = w.end;
    size = ap length q ∙ length-sets d at line ∙ w.size;
    holds = (λ i. sets (q i) (p i) (sent later)) ∙ sets-append line (sent later) d at ∙ ap (sets d at) (sym first-line) ∙ w.holds;
    ends = omega (arith, w.ends, sizes, p);
  }

-- nothing is left to send
pub writes-done : {w₀ : Serving} {d₀ d : List ℕ} {at : ℕ} (c : Connection) (e : Result Ending Refusal) → Writes w₀ (stopped (end_of e) (leaving (end_of e) c)) d₀ d at → Sends w₀ c (record { ending = e; end = at }) d₀ d
unfolding text
writes-done c e w = record { connection = w.connection; ending = w.end; ends = omega (arith, w.ends); filled = w.holds }

-- an arrival, and what follows it
pub arrives : (c : Connection) (r : Request) (after : Connection) (x : Answer Said) → after ≡ (arrive_of c r).connection → x ≡ (arrive_of c r).answer → following x after (serving turns after) ≡ served c r
unfolding served
arrives c r after x p q = λ i. following (q i) (p i) (serving turns (p i))

-- a serving by another name
pub sends-as : {w v : Serving} → w ≡ v → {after : Connection} {r : Reply} {d₀ d : List ℕ} → Sends w after r d₀ d → Sends v after r d₀ d
sends-as e {after} {r} {d₀} {d} s = subst (λ (x : Serving). Sends x after r d₀ d) e s
