-- `line::handle` meets its contract: by the room. Assumes nothing.
use Rattle.std.proofs.Common.{◌≡◌, arith, length}
use Rattle.session.specs.Session.{next_of, written}
use Rattle.session.proofs.Replies.{handled, unmoved, moved, counted, copies}
use Rattle.session.proofs.line.handle.Goals as goal

pub returns-then-out-ge-ENOUGH : goal.returns-then-out-ge-ENOUGH
returns-then-out-ge-ENOUGH c =
    let both = handled (length c.args.out.now) c.args.session.now c.args.line.now c.if-out-ge-ENOUGH.true _ _ _ _ c.respond.ensures in
    record { answer = both.0; goes_on = both.1.0; filled = both.1.1 }

pub returns-then-out-size : goal.returns-then-out-size
returns-then-out-size c =
    let n : c.characters-size.result ≡ length (written (next_of c.args.session.now c.args.line.now)) = counted c.respond-handled.ensures _ c.characters-size.ensures in
    let both = unmoved (length c.args.out.now) c.args.session.now c.args.line.now c.args.out.now (omega arith) in
    record { answer = both.0; goes_on = both.1.0; filled = both.1.1 }

pub returns : goal.returns
returns c =
    let n : c.characters-size.result ≡ length (written (next_of c.args.session.now c.args.line.now)) = counted c.respond-handled.ensures _ c.characters-size.ensures in
    let both = moved (length c.args.out.now) c.args.session.now c.args.line.now (omega arith) _ _ _ _ c.args.out.now _ c.respond-handled.ensures (copies c.respond-handled.ensures _ c.characters-size.ensures _ _ (omega arith) c.copy.ensures.filled) in
    record { answer = both.0; goes_on = both.1.0; filled = both.1.1 }
