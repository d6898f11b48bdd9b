-- `packing::pack_string` meets its contract. Assumes nothing.
use Rattle.std.proofs.Common.{◌+◌, ◌≤◌, length, rules, arith}
use Rattle.std.proofs.lemmas.Grind.{common_steps}
use Rattle.slices.proofs.Parts.{reaches-yes}
use Rattle.packing.proofs.Packing.{header-most, length-string, string-formed, string-put}
use Rattle.packing.proofs.pack_string.Goals as goal

pub overflow_add-total : goal.overflow_add-total
overflow_add-total c = omega (arith, c.header_length-header.ensures, header-most (length c.args.text.now))

pub returns-in_err-end-clause-answer : goal.returns-in_err-end-clause-answer
returns-in_err-end-clause-answer c =
    let v = c.args.text.now in
    let l = length-string v _ c.header_length-header.ensures in
    rw (string-formed v (omega arith) (search rules), ← l) (search rules)

pub returns-in_err-end-clause-filled : goal.returns-in_err-end-clause-filled
returns-in_err-end-clause-filled c =
    let v = c.args.text.now in
    let l = length-string v _ c.header_length-header.ensures in
    rw (string-formed v (omega arith) (search rules), ← l) (search rules)

pub returns-clause-answer : goal.returns-clause-answer
returns-clause-answer c =
    let v = c.args.text.now in
    let l = length-string v _ c.header_length-header.ensures in
    rw (string-formed v (omega arith) (search rules), ← l) (search rules)

pub returns-clause-filled : goal.returns-clause-filled
returns-clause-filled c =
    let v = c.args.text.now in
    let h = c.header_length-header in
    let room : c.args.at + (h.result + length v) ≤ length c.args.out.now = grind (arith, common_steps) in
    rw (string-formed v (omega arith) (search rules), ← length-string v _ h.ensures, reaches-yes c.args.out.now c.args.at _ room)
    (string-put v h.result h.ensures c.args.out.now c.args.at _ _ room c.put_header.ensures c.copy.ensures.filled)
