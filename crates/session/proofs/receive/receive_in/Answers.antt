-- `receive::receive_in` meets its contract: the line's bytes stand in front of their memory. Assumes nothing.
use Rattle.std.proofs.Common.{◌≡◌, ◌/◌, ◌≤◌, ℕ, sym, ap, ◌∙◌, arith, rules, length, replicate}
use Rattle.std.proofs.lemmas.List.{length-replicate}
use Rattle.refusal.specs.Answer.{told}
use Rattle.refusal.specs.Numbers.{number_of}
use Rattle.session.specs.Receiving.{refusal, brought_in}
use Rattle.session.proofs.Receiving.{is-line, is_none, its-bytes, refused-23, brought-line, brought-none}
use Rattle.session.proofs.receive.receive_in.Goals as goal

pub returns-in_err-n : goal.returns-in_err-n
returns-in_err-n g c =
    let s = c.args.line.now in
    let l : length s / 2 ≤ length (replicate {A = ℕ} g.row.BYTES 0) = omega (arith, c.requires.line, length-replicate {A = ℕ} g.row.BYTES 0) in
    let d = sym (ap told c.in_err-n.was) ∙ c.decode.ensures.answer in
    let e : refusal (number_of c.in_err-n.field-0.0) ≡ brought_in g.row.MESSAGE c.args.version.minor s = ap refusal (refused-23 s _ (λ _. l) _ d) ∙ brought-none _ _ s (is_none s _ (λ _. l) _ d) in
    search rules

pub returns : goal.returns
returns g c =
    let s = c.args.line.now in
    let l : length s / 2 ≤ length (replicate {A = ℕ} g.row.BYTES 0) = omega (arith, c.requires.line, length-replicate {A = ℕ} g.row.BYTES 0) in
    let d = sym (ap told c.in_ok-n.was) ∙ c.decode.ensures.answer in
    c.receive_frame.ensures ∙ brought-line _ c.args.version.minor s _ (is-line s _ (λ _. l) _ d) (its-bytes s _ (λ _. l) _ _ _ d c.decode.ensures.filled)
    ∙ ap (λ (room : ℕ). brought_in room c.args.version.minor s) (length-replicate {A = ℕ} g.row.MESSAGE 0)
