-- How much room is enough for any line: the theorem `room`. Assumes nothing.
use mathlib.Core.Path.{◌≡◌, ap}
use mathlib.Core.Bool.{Bool, true, false, cond}
use mathlib.Core.List.{List, [], ◌∷◌, ◌++◌, map}
use Prim.Native.Nat.{ℕ, zero, suc, ◌*◌, ◌≤◌}
use native.Mathlib.Omega.{arith}
use lib.Dec.{eqb}
use lib.ListN.{length, length-append}
use borrow.Author.Tests.{le-ltb}
use Rattle.refusal.specs.Answer.{Answer, returned, refused}
use Rattle.handshake.specs.Version.{bytes_of}
use Rattle.bolt.specs.Limits.{most_bytes}
use Rattle.summaries.proofs.SummaryForms.{sized}
use Rattle.states.specs.declared.answers.Summary.{Summary}
use Rattle.record.specs.declared.record.Connection.{Connection}
use Rattle.states.specs.Table as T
use Rattle.states.specs.Table.{Said}
use Rattle.record.specs.Calls.{arrive_of}
use Rattle.session.specs.declared.phase.Phase.{Phase}
use Rattle.session.specs.declared.phase.Phase.TheVariants.{Awaiting, Open}
use Rattle.session.specs.Text.{line_text, text}
use Rattle.serving.specs.Serving.{End, idle, Serving, turn_of, following, serving, turns, served}
use Rattle.session.specs.Receiving as Brought
use Rattle.session.specs.Receiving.{handshake_in, brought_in}
use Rattle.session.specs.declared.phase.Session.{Session}
use Rattle.session.specs.Session.{summary_line, end_lines, replying, zeros, greeting, answering, in_phase, next_of, written, handling}
use Rattle.session.specs.Room.{enough, Claim}
use Rattle.session.specs.Private.Replies.{sent}
use Rattle.session.proofs.Writing.{text-append, length-one, length_none, summary-length}

-- ---- no more summaries than turns
follow-few : (n : ℕ) (x : Answer Said) (d : Connection) (later : Serving) → length later.summaries ≤ n → length (following x d later).summaries ≤ suc n
follow-few n (refused number place) d later h = omega arith
follow-few n (returned T.queued) d later h = omega (arith, h)
follow-few n (returned T.closed) d later h = omega arith
follow-few n (returned T.idle) d later h = omega arith
follow-few n (returned (T.handed r k)) d later h = omega arith
follow-few n (returned (T.answered s k)) d later h = omega (arith, h)

serving-few : (n : ℕ) (c : Connection) → length (serving n c).summaries ≤ n
unfolding serving
serving-few zero c = omega arith
serving-few (suc n) c = follow-few n (turn_of c).answer (turn_of c).connection (serving n (turn_of c).connection) (serving-few n (turn_of c).connection)

answering-few : (c : Connection) (b : Brought.Brought) → length (answering c b).summaries ≤ suc turns
unfolding served
answering-few c Brought.nothing = omega arith
answering-few c (Brought.request r) = follow-few turns (arrive_of c r).answer (arrive_of c r).connection (serving turns (arrive_of c r).connection) (serving-few turns (arrive_of c r).connection)
answering-few c (Brought.refusal number) = omega arith

-- ---- how long they are
summaries-short : (l : List Summary) → length (text (map summary_line l)) ≤ 129 * length l
unfolding text
summaries-short [] = omega arith
summaries-short (s ∷ l) =
    omega (arith, length-append (line_text (summary_line s)) (text (map summary_line l)), summary-length s, (sized s).high, summaries-short l)

-- of the turns that follow an arrival
pub sent-short : (c : Connection) → length (sent (serving turns c)) ≤ enough
sent-short c = omega (arith, summaries-short (serving turns c).summaries, serving-few turns c)

end_short : (e : End) → length (text (end_lines e)) ≤ 3
end_short idle = omega (arith, length_none)
end_short End.closed = omega (arith, length_none)
end_short (End.refusal number) = omega (arith, length-one (number ∷ []))

reply-short : (p : Phase) (opening : List (List ℕ)) (s : Serving) → length (text opening) ≤ 9 → length s.summaries ≤ suc turns → length (written (replying p opening s)) ≤ enough
unfolding replying
reply-short p opening s h k =
    let l = map summary_line s.summaries in
    let e = end_lines s.end in
    omega (arith, h, k, summaries-short s.summaries, end_short s.end, ap length (text-append opening (l ++ e)), length-append (text opening) (text (l ++ e)), ap length (text-append l e), length-append (text l) (text e))

zeros-short : (number : ℕ) → length (text (zeros number)) ≤ 9
zeros-short number = by (eqb number 3)
  where
    by : (b : Bool) → length (text (cond b ((0 ∷ 0 ∷ 0 ∷ 0 ∷ []) ∷ []) [])) ≤ 9
    by true = omega (arith, length-one (0 ∷ 0 ∷ 0 ∷ 0 ∷ []))
    by false = omega (arith, length_none)

greeting-short : (c : Connection) (a : Answer ℕ) → length (written (greeting c a)) ≤ enough
greeting-short c (returned minor) = reply-short (Open (record { minor = minor })) (bytes_of minor ∷ []) _ (omega (arith, length-one (bytes_of minor))) (omega arith)
greeting-short c (refused number place) = reply-short Awaiting (zeros number) _ (zeros-short number) (omega arith)

in-phase-short : (p : Phase) (c : Connection) (line : List ℕ) → length (written (in_phase p c line)) ≤ enough
in-phase-short Awaiting c line = greeting-short c (handshake_in line)
in-phase-short (Open v) c line =
    reply-short (Open v) [] (answering c (brought_in most_bytes v.minor line)) (omega (arith, length_none)) (answering-few c (brought_in most_bytes v.minor line))

next-short : (s : Session) (line : List ℕ) → length (written (next_of s line)) ≤ enough
unfolding next_of
next-short s line = in-phase-short s.phase s.connection line

taken : (s : Session) (line : List ℕ) (room : ℕ) → enough ≤ room → handling room s line ≡ returned (next_of s line)
unfolding handling
taken s line room h =
    let k : length (written (next_of s line)) ≤ room = omega (arith, next-short s line) in
    ap (λ (b : Bool). cond b (refused 21 0) (returned (next_of s line))) (le-ltb room (length (written (next_of s line))) k)

pub room : Claim
room s line = record { most = next-short s line; taken = taken s line }
