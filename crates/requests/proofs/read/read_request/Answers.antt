-- `requests::read::read_request` meets its contract: by what is told of the message. Assumes nothing.
use mathlib.Core.Path.{sym}
use Rattle.requests.proofs.Roots.{no-structure, structure-there}
use Rattle.requests.proofs.read.read_request.Goals as goal

pub returns-in_default : goal.returns-in_default
returns-in_default c =
    let a = c.args in let h = c.in_ok-found.found in
    rw c.into.ensures (no-structure a.message.now h.head h.end c.in_ok-found.ensures a.version.minor c.in_default.not-Structure)

pub returns : goal.returns
returns c =
    let a = c.args in let h = c.in_ok-found.found in
    structure-there a.message.now h.head h.end c.in_ok-found.ensures a.version.minor
    c.in-Structure.tag c.in-Structure.first c.in-Structure.count (sym c.in-Structure.is) c.by_tag.result c.by_tag.ensures
