-- `write::put_line` meets its contract: there is room for the digits, and the line's end goes behind them. Assumes nothing.
use Rattle.std.proofs.Common.{◌≡◌, ◌*◌, length, Ok, sym, ap, ◌∙◌, arith}
use Rattle.std.specs.Result.{is_ok}
use Rattle.session.proofs.Writing.{length-line, encodes, end-inside, line-put}
use Rattle.session.proofs.write.put_line.Goals as goal

pub unwrap-requires : goal.unwrap-requires
unwrap-requires c = ap is_ok (encodes c.args.out.now c.args.bytes.now c.args.at c.requires c.encode.result c.encode.ensures.answer)

pub bounds-out-end : goal.bounds-out-end
bounds-out-end c =
    let e : Ok c.unwrap.result ≡ Ok (2 * length c.args.bytes.now) = sym c.unwrap.ensures ∙ encodes c.args.out.now c.args.bytes.now c.args.at c.requires c.encode.result c.encode.ensures.answer in
    let n : c.unwrap.result ≡ 2 * length c.args.bytes.now = cc in
    omega (arith, end-inside c.args.out.now c.args.bytes.now c.args.at c.requires _ c.encode.ensures.filled)

pub returns : goal.returns
returns c =
    let e : Ok c.unwrap.result ≡ Ok (2 * length c.args.bytes.now) = sym c.unwrap.ensures ∙ encodes c.args.out.now c.args.bytes.now c.args.at c.requires c.encode.result c.encode.ensures.answer in
    let n : c.unwrap.result ≡ 2 * length c.args.bytes.now = cc in
    record { answer = omega (arith, length-line c.args.bytes.now); filled = rw n (line-put c.args.out.now c.args.bytes.now c.args.at c.requires _ c.encode.ensures.filled) }
