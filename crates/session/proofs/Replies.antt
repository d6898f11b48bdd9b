-- Laws of replies: what a line leads to, written part after part, and which answer is given. Assumes nothing.
use mathlib.Core.Path.{◌≡◌, refl, sym, ap, ◌∙◌, subst}
use mathlib.Core.Bool.{Bool, cond}
use mathlib.Core.List.{List, [], ◌∷◌, ◌++◌, map}
use Prim.Native.Nat.{ℕ, ◌+◌, ◌≤◌, ◌<◌}
use native.Mathlib.Nat.{zero-add}
use native.Mathlib.Omega.{arith}
use lib.Dec.{ltb}
use lib.ListN.{length, take, drop, length-append}
use lib.Seq.{sets, sets-eq, length-sets, take_at}
use borrow.Author.Tests.{lt-ltb, le-ltb, eq-eqb, ne_eqb}
use Rattle.slices.specs.Parts.{front, copied}
use Rattle.slices.proofs.Parts.{sets-append, fits-yes}
use Rattle.std.specs.Prelude.{Result, Ok, Err}
use Rattle.refusal.specs.Answer.{Answer, returned, refused, left}
use Rattle.refusal.specs.Numbers.{number_of}
use Rattle.refusal.specs.declared.Refusal.{Refusal}
use Rattle.handshake.specs.declared.version.Version.{Version}
use Rattle.handshake.specs.Version.{bytes_of}
use Rattle.bolt.specs.Limits.{most_bytes}
use Rattle.record.specs.declared.record.Connection.{Connection}
use Rattle.serving.specs.declared.Ending.{Ending}
use Rattle.serving.specs.declared.Ending.TheVariants as E
use Rattle.serving.specs.Serving.{Serving, stopped, after_refusal, refusing, end_of}
use Rattle.session.specs.declared.phase.Phase.{Phase}
use Rattle.session.specs.declared.phase.Phase.TheVariants.{Awaiting, Open}
use Rattle.session.specs.declared.phase.Session.{Session}
use Rattle.session.specs.declared.reply.Reply.{Reply}
use Rattle.session.specs.declared.line.Handled.{Handled}
use Rattle.session.specs.declared.line.Handled.TheVariants as H
use Rattle.session.specs.Text.{line_text, text}
use Rattle.session.specs.Receiving.{handshake_in, Brought, brought_in}
use Rattle.session.specs.Session.{Next, summary_line, end_lines, is_idle, replying, zeros, greeting, answering, in_phase, next_of, written, handling, Told, telling, told_handled, going_on, putting}
use Rattle.session.specs.Room.{enough}
use Rattle.session.specs.Private.Replies.{leaving, Sends, Replies, Responds}
use Rattle.session.proofs.Writing.{length-line, text-append, text-one}
use Rattle.session.proofs.Room.{room as any-line}

-- what a line gives, by another name
pub replies-as : {n m : Next} → n ≡ m → {r : Reply} {after : Session} {d₀ d : List ℕ} → Replies n r after d₀ d → Replies m r after d₀ d
replies-as e {r} {after} {d₀} {d} w = subst (λ (x : Next). Replies x r after d₀ d) e w

-- ---- what is sent before the end
-- the handshake sends its lines, and then it has ended
opens : (s : Session) (opening : List (List ℕ)) (e : Result Ending Refusal) (n : ℕ) (d₀ d : List ℕ) → n ≡ length (text opening) → d ≡ sets d₀ 0 (text opening)
    → Replies (replying s.phase opening (stopped (end_of e) (leaving (end_of e) s.connection))) (record { ending = e; end = n }) s d₀ d
unfolding replying
opens s opening e n d₀ d m q = record { lines = opening; next = refl; ends = m; filled = q }

-- a line of them
one_line : (opening : List (List ℕ)) (v d₀ d : List ℕ) (n : ℕ) → v ∷ [] ≡ opening → n ≡ 0 + length (line_text v) → d ≡ sets d₀ 0 (line_text v) → (n ≡ length (text opening)) × (d ≡ sets d₀ 0 (text opening))
one_line opening v d₀ d n e m q =
    let t : line_text v ≡ text opening = sym (text-one v) ∙ ap text e in
    (m ∙ zero-add (length (line_text v)) ∙ ap length t, q ∙ ap (sets d₀ 0) t)

-- a version is agreed on, and sent
pub agrees_on : (c : Connection) (a : Answer ℕ) (v : Version) → returned v.minor ≡ a → (bytes : List ℕ) → bytes ≡ bytes_of v.minor → (n : ℕ) (d₀ d : List ℕ)
    → n ≡ 0 + length (line_text bytes) → d ≡ sets d₀ 0 (line_text bytes) → Replies (greeting c a) (record { ending = Ok E.Idle; end = n }) (record { phase = Open v; connection = c }) d₀ d
agrees_on c a v e bytes b n d₀ d m q =
    let o : List (List ℕ) = bytes_of v.minor ∷ [] in
    let l = one_line o bytes d₀ d n (ap (λ (x : List ℕ). x ∷ []) b) m q in
    replies-as (ap (greeting c) e) (opens (record { phase = Open v; connection = c }) o (Ok E.Idle) n d₀ d l.0 l.1)

-- none is: four zeros are sent where nothing is in common, and only there
module _ (s : Session) (begins : s.phase ≡ Awaiting) (a : Answer ℕ) (why : Refusal) (e : refused (number_of why) 0 ≡ a) (n : ℕ) (d₀ : List ℕ) where
  abbrev four : List ℕ
  four = 0 ∷ 0 ∷ 0 ∷ 0 ∷ []

  away : (opening : List (List ℕ)) → opening ≡ zeros (number_of why) → (d : List ℕ) → n ≡ length (text opening) → d ≡ sets d₀ 0 (text opening)
      → Replies (greeting s.connection a) (record { ending = Err why; end = n }) s d₀ d
  away opening z d m q =
      replies-as ((λ i. replying (begins i) (z i) (refusing (number_of why) s.connection)) ∙ ap (greeting s.connection) e) (opens s opening (Err why) n d₀ d m q)

  pub away-zeros : number_of why ≡ 3 → (d : List ℕ) → n ≡ 0 + length (line_text four) → d ≡ sets d₀ 0 (line_text four) → Replies (greeting s.connection a) (record { ending = Err why; end = n }) s d₀ d
  away-zeros t d m q =
      let l = one_line (four ∷ []) four d₀ d n refl m q in
      away (four ∷ []) (sym (ap (λ (b : Bool). cond b (four ∷ []) []) (eq-eqb (number_of why) 3 t))) d l.0 l.1

  pub away-quiet : (number_of why ≡ 3 → ⊥) → n ≡ 0 → Replies (greeting s.connection a) (record { ending = Err why; end = n }) s d₀ d₀
  unfolding text
  away-quiet t m = away [] (sym (ap (λ (b : Bool). cond b (four ∷ []) []) (ne_eqb (number_of why) 3 t))) d₀ m refl

-- a frame's summaries, served
serves : (p : Phase) (w : Serving) (c : Connection) (r : Reply) (d₀ d : List ℕ) → Sends w c r d₀ d → Replies (replying p [] w) r (record { phase = p; connection = c }) d₀ d
unfolding replying
serves p w c r d₀ d v = record {
  lines = map summary_line w.summaries;
  next = λ i. record { lines = map summary_line w.summaries ++ end_lines (sym v.ending i); goes_on = is_idle (sym v.ending i); session = record { phase = p; connection = sym v.connection i } };
  ends = v.ends;
  filled = v.filled;
}

-- by the phase
module _ (s : Session) (line : List ℕ) where
  pub awaiting : s.phase ≡ Awaiting → greeting s.connection (handshake_in line) ≡ next_of s line
  unfolding next_of
  awaiting p = ap (λ (x : Phase). in_phase x s.connection line) (sym p)

  module _ (v : Version) (p : s.phase ≡ Open v) (b : Brought) (e : b ≡ brought_in most_bytes v.minor line) where
    brings : replying s.phase [] (answering s.connection b) ≡ next_of s line
    unfolding next_of
    brings =
        ap (λ (x : Phase). replying x [] (answering s.connection b)) p ∙ ap (λ (x : Brought). replying (Open v) [] (answering s.connection x)) e
        ∙ ap (λ (x : Phase). in_phase x s.connection line) (sym p)

    pub answers : (c : Connection) (r : Reply) (d₀ d : List ℕ) → Sends (answering s.connection b) c r d₀ d → Replies (next_of s line) r (record { phase = s.phase; connection = c }) d₀ d
    answers c r d₀ d w = replies-as brings (serves s.phase (answering s.connection b) c r d₀ d w)

    -- nothing is served
    pub answers-none : (x : Result Ending Refusal) → answering s.connection b ≡ stopped (end_of x) (leaving (end_of x) s.connection) → (d : List ℕ) → Replies (next_of s line) (record { ending = x; end = 0 }) s d d
    unfolding text
    answers-none x z d = replies-as (ap (replying s.phase []) (sym z) ∙ brings) (opens s [] x 0 d d refl refl)

-- ---- and the end behind it
module _ {n : Next} {r : Reply} {s : Session} {d₀ d : List ℕ} (w : Replies n r s d₀ d) (room : length (written n) ≤ length d₀) where
  abbrev last : List ℕ
  last = text (end_lines (end_of r.ending))

  whole : written n ≡ text w.lines ++ last
  whole = ap written w.next ∙ text-append w.lines (end_lines (end_of r.ending))

  sizes : length (written n) ≡ r.end + length last
  sizes = ap length whole ∙ length-append (text w.lines) last ∙ ap (λ (k : ℕ). k + length last) (sym w.ends)

  responds : (c : Connection) → c ≡ leaving (end_of r.ending) s.connection → (h : Handled) (size : ℕ) → told_handled h ≡ record { goes_on = is_idle (end_of r.ending); characters = size }
      → (e : List ℕ) → size ≡ r.end + length last → e ≡ sets d r.end last → Responds n h (record { phase = s.phase; connection = c }) d₀ e
  responds c q h size t e m z = record {
    answer = t ∙ (λ i. record { goes_on = (sym w.next i).goes_on; characters = (m ∙ sym sizes) i });
    session = (λ i. record { phase = s.phase; connection = q i }) ∙ (λ i. (sym w.next i).session);
    filled =
        z ∙ (λ i. sets (w.filled i) ((w.ends ∙ sym (zero-add (length (text w.lines)))) i) last) ∙ sets-append (text w.lines) last d₀ 0
        ∙ ap (sets d₀ 0) (sym whole) ∙ sets-eq (written n) d₀ 0 (omega (arith, room)) ∙ ap (λ (k : ℕ). written n ++ drop k d₀) (zero-add (length (written n)));
  }

  -- nothing more is written
  pub ends-quietly : (x : Result Ending Refusal) → r.ending ≡ x → end_lines (end_of x) ≡ [] → s.connection ≡ leaving (end_of x) s.connection → (h : Handled)
      → told_handled h ≡ record { goes_on = is_idle (end_of x); characters = r.end } → Responds n h s d₀ d
  unfolding text
  ends-quietly x e z q h t =
      let l : last ≡ [] = ap (λ (y : Result Ending Refusal). text (end_lines (end_of y))) e ∙ ap text z in
      responds s.connection (q ∙ ap (λ (y : Result Ending Refusal). leaving (end_of y) s.connection) (sym e)) h r.end
      (t ∙ ap (λ (y : Result Ending Refusal). record { goes_on = is_idle (end_of y); characters = r.end }) (sym e)) d (omega (arith, ap length l)) (sym (ap (sets d r.end) l))

  -- the refusal's line
  module _ (why : Refusal) (e : r.ending ≡ Err why) where
    one : last ≡ line_text (number_of why ∷ [])
    one = ap (λ (y : Result Ending Refusal). text (end_lines (end_of y))) e ∙ text-one (number_of why ∷ [])

    pub refusal-fits : r.end + 3 ≤ length d
    refusal-fits = omega (arith, room, sizes, ap length w.filled ∙ length-sets d₀ 0 (text w.lines), ap length one, length-line (number_of why ∷ []))

    pub ends-refused : (c : Connection) → c ≡ after_refusal (number_of why) s.connection → (size number : ℕ) (out : List ℕ) → number ≡ number_of why
        → size ≡ r.end + length (line_text (number ∷ [])) → out ≡ sets d r.end (line_text (number ∷ [])) → Responds n (H.Ended size) (record { phase = s.phase; connection = c }) d₀ out
    ends-refused c q size number out m z y =
        let l : line_text (number ∷ []) ≡ last = ap (λ (x : ℕ). line_text (x ∷ [])) m ∙ sym one in
        responds c (q ∙ ap (λ (y : Result Ending Refusal). leaving (end_of y) s.connection) (sym e)) (H.Ended size) size (ap (λ (y : Result Ending Refusal). record { goes_on = is_idle (end_of y); characters = size }) (sym e)) out
        (z ∙ ap (λ (v : List ℕ). r.end + length v) l) (y ∙ ap (sets d r.end) l)

-- ---- which answer is given
module _ (room : ℕ) (s : Session) (line : List ℕ) where
  by-room : {b : Bool} → ltb room (length (written (next_of s line))) ≡ b → handling room s line ≡ cond b (refused 21 0) (returned (next_of s line))
  unfolding handling
  by-room t = ap (λ (b : Bool). cond b (refused 21 0) (returned (next_of s line))) t

  abbrev Handles : Answer Told → Session → List ℕ → List ℕ → Type 0
  Handles a after d₀ d = (a ≡ telling (handling room s line)) × ((after ≡ left going_on (handling room s line) s) × (d ≡ left putting (handling room s line) d₀))

  -- too little
  pub unmoved : (d : List ℕ) → room < length (written (next_of s line)) → Handles (refused 21 0) s d d
  unmoved d h =
      let e : refused 21 0 ≡ handling room s line = sym (by-room (lt-ltb room (length (written (next_of s line))) h)) in
      (ap telling e, (ap (λ (a : Answer Next). left going_on a s) e, ap (λ (a : Answer Next). left putting a d) e))

  -- enough
  pub moved : length (written (next_of s line)) ≤ room → (h : Handled) (after : Session) (b₀ b d₀ d : List ℕ) → Responds (next_of s line) h after b₀ b → d ≡ front (written (next_of s line)) d₀
      → Handles (returned (told_handled h)) after d₀ d
  moved l h after b₀ b d₀ d w p =
      let e : returned (next_of s line) ≡ handling room s line = sym (by-room (le-ltb room (length (written (next_of s line))) l)) in
      (ap returned w.answer ∙ ap telling e, (w.session ∙ ap (λ (a : Answer Next). left going_on a s) e, p ∙ ap (λ (a : Answer Next). left putting a d₀) e))

  -- enough for any line
  pub handled : enough ≤ room → (h : Handled) (after : Session) (d₀ d : List ℕ) → Responds (next_of s line) h after d₀ d → Handles (returned (told_handled h)) after d₀ d
  handled l h after d₀ d w = moved (omega (arith, l, (any-line s line).most)) h after d₀ d d₀ d w w.filled

-- ---- by way of other memory
module _ {n : Next} {h : Handled} {after : Session} {b₀ b : List ℕ} (w : Responds n h after b₀ b) (size : ℕ) (e : size ≡ (told_handled h).characters) where
  pub counted : size ≡ length (written n)
  counted = e ∙ ap (λ (t : Told). t.characters) w.answer

  pub copies : (d₀ d : List ℕ) → size ≤ length d₀ → d ≡ copied b 0 size d₀ 0 → d ≡ front (written n) d₀
  copies d₀ d inside p =
      let v = written n in
      let l : length b ≡ length v + length (drop (length v) b₀) = ap length w.filled ∙ length-append v (drop (length v) b₀) in
      let k : length v ≤ length d₀ = omega (arith, inside, counted) in
      p ∙ ap (λ (t : Bool). cond t (sets d₀ 0 (take size b)) d₀) (fits-yes b 0 size d₀ 0 (omega (arith, l, counted)) (omega arith))
      ∙ ap (sets d₀ 0) (ap (take size) w.filled ∙ take_at v (drop (length v) b₀) size (sym counted)) ∙ sets-eq v d₀ 0 (omega arith)
      ∙ ap (λ (k : ℕ). v ++ drop k d₀) (zero-add (length v))
