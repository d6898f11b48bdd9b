-- `receive::receive_handshake` meets its contract: by whether the line is one. There is room for the bytes of any. Assumes nothing.
use Rattle.std.proofs.Common.{◌≡◌, ℕ, sym, ap, ◌∙◌, arith, rules, replicate}
use Rattle.refusal.specs.Answer.{refused, told}
use Rattle.refusal.specs.Numbers.{number_of}
use Rattle.session.specs.Receiving.{handshake_in}
use Rattle.session.proofs.Receiving.{enough, is-line, is_none, its-bytes, refused-23, handshake-line, handshake-none}
use Rattle.session.proofs.receive.receive_handshake.Goals as goal

pub returns-in_err-n : goal.returns-in_err-n
returns-in_err-n c =
    let s = c.args.line.now in
    let holds = enough s 20000 (omega arith) in
    let d = sym (ap told c.in_err-n.was) ∙ c.decode.ensures.answer in
    let e : refused (number_of c.in_err-n.field-0.0) 0 ≡ handshake_in s = ap (λ (n : ℕ). refused n 0) (refused-23 s 20000 holds _ d) ∙ handshake-none s (is_none s 20000 holds _ d) in
    search rules

pub returns : goal.returns
returns c =
    let s = c.args.line.now in
    let e = sym (ap told c.in_ok-n.was) ∙ c.decode.ensures.answer in
    c.agree.ensures ∙ handshake-line s _ (is-line s 20000 (enough s 20000 (omega arith)) _ e) (its-bytes s 20000 (enough s 20000 (omega arith)) (replicate 20000 0) _ _ e c.decode.ensures.filled)
