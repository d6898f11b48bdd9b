-- What of a request arrives at the connection: document 01, "Arrive takes a request's kind and, for DISCARD and PULL, its n and qid".
-- Assumes nothing.
use Rattle.requests.specs.declared.request.Request.{Request}
use Rattle.requests.specs.declared.request.Request.TheVariants as R
use Rattle.states.specs.declared.request.Request.{Request as Arriving}
use Rattle.states.specs.declared.request.Request.TheVariants as A

abbrev pub arrival_of : Request → Arriving
arrival_of (R.Hello agent scheme principal credentials routing) = A.Hello
arrival_of R.Goodbye = A.Goodbye
arrival_of R.Reset = A.Reset
arrival_of (R.Run query parameters transaction) = A.Run
arrival_of (R.Begin transaction) = A.Begin
arrival_of R.Commit = A.Commit
arrival_of R.Rollback = A.Rollback
arrival_of (R.Discard batch) = A.Discard batch.n batch.qid
arrival_of (R.Pull batch) = A.Pull batch.n batch.qid
