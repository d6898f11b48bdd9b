-- The record and its parts, as `LendingTwo` takes them, and what the four calls on it ensure. Assumes nothing.
use mathlib.Core.Path.{◌≡◌, refl}
use mathlib.Core.List.{[], ◌∷◌}
use mir.Syntax.{Mutability}
use denote.RattleType.{RattleType}
use denote.Struct.Field.{u64-field, unit-field}
use denote.Struct.Laws.{owed, owes, u64-laws, u64-plain, u64-copy, unit-laws, unit-plain, unit-copy}
use denote.Param.Laws as type
use denote.Param.Plain.{IsPlain}
use denote.Param.Shared.{copy_shared}
use Rattle.std.specs.contracts.result.Result as result-type
use Rattle.std.proofs.result.Result.TheLaws as result-laws
use Rattle.refusal.specs.contracts.Refusal as refusal-type
use Rattle.refusal.proofs.Refusal.TheLaws as refusal-laws
use Rattle.states.specs.Answers.{told_arrival, told_taken, told_reported, told_closing}
use Rattle.states.specs.contracts.request.Request as request-type
use Rattle.states.proofs.request.Request.TheLaws as request-laws
use Rattle.states.specs.contracts.answers.Outcome as outcome-type
use Rattle.states.proofs.answers.Outcome.TheLaws as outcome-laws
use Rattle.states.specs.contracts.answers.Arrival as arrival-type
use Rattle.states.proofs.answers.Arrival.TheLaws as arrival-laws
use Rattle.states.specs.contracts.answers.Taken as taken-type
use Rattle.states.proofs.answers.Taken.TheLaws as taken-laws
use Rattle.states.specs.contracts.answers.Answered as answered-type
use Rattle.states.proofs.answers.Answered.TheLaws as answered-laws
use Rattle.record.specs.Record.{joined}
use Rattle.record.specs.Calls.{arrive_of, take_of, report_of, close_of}
use Rattle.record.specs.contracts.record.Connection as T
use Rattle.record.proofs.record.Connection.TheLaws as T'
use Rattle.record.specs.contracts.record.Control as K
use Rattle.record.proofs.record.Control.TheLaws as K'
use Rattle.record.specs.contracts.record.Queue as Q
use Rattle.record.proofs.record.Queue.TheLaws as Q'
use Rattle.in_place.proofs.InPlace.{Plain, of_field, of_array, Two, Ensures}
use Rattle.in_place.proofs.LendingTwo.{Three, Lends}

abbrev pub connection : Plain
connection = of_field T.the_field T'.the_field_laws T'.the_field_plain T'.the_field_copy refl

abbrev pub control : Plain
control = of_field K.the_field K'.the_field_laws K'.the_field_plain K'.the_field_copy refl

abbrev pub streams : Plain
streams = of_array u64-field u64-laws u64-plain u64-copy 8

abbrev pub queue : Plain
queue = of_field Q.the_field Q'.the_field_laws Q'.the_field_plain Q'.the_field_copy refl

abbrev pub parts : Three connection control streams queue
parts = record {
  name = (T.struct).name;
  control = λ h. h.control;
  first = λ h. h.streams;
  second = λ h. h.queue;
  joined = joined;
  whole = λ h. refl;
  laid = refl;
  spells = λ k a b. refl;
  are = λ h vs is. let o = owed T.the_type T'.the_laws h vs is in (o.0, (o.1.0, o.1.1.0));
  owes = λ k a b f. owes T.the_type T'.the_laws (joined k a b) (f.0, (f.1.0, (f.1.1, tt)));
}

-- a call whose step returns U, a control and the answer R: how the streams are lent to it, and how the queue
abbrev pub lending : (U R : Plain) → Two U control R → Mutability → Mutability → Lends
lending U R gave streams-by queue-by = record {
  T = connection;
  K = control;
  A = streams;
  B = queue;
  U = U;
  R = R;
  parts = parts;
  gave = gave;
  by-A = streams-by;
  by-B = queue-by;
}

-- ---- what the calls are passed, and what they answer
abbrev pub request : Plain
request = of_field request-type.the_field request-laws.the_field_laws request-laws.the_field_plain request-laws.the_field_copy refl

abbrev pub outcome : Plain
outcome = of_field outcome-type.the_field outcome-laws.the_field_laws outcome-laws.the_field_plain outcome-laws.the_field_copy refl

-- a value of the type A, or a refusal
abbrev or-refusal : (A : RattleType) → type.Laws A → type.Told A → IsPlain A → type.IsCopy A → Plain
or-refusal A laws told plain copy =
    of_field (result-type.the_field A refusal-type.the_row)
    (result-laws.the_field_laws A refusal-type.the_row laws refusal-laws.the_row_laws told refusal-laws.the_told)
    (result-laws.the_field_plain A refusal-type.the_row plain refusal-laws.the_row_plain)
    (result-laws.the_field_copy A refusal-type.the_row laws refusal-laws.the_row_laws copy refusal-laws.the_row_copy) refl

abbrev pub arrival : Plain
arrival = or-refusal arrival-type.the_row arrival-laws.the_row_laws arrival-laws.the_told arrival-laws.the_row_plain arrival-laws.the_row_copy

abbrev pub taken : Plain
taken = or-refusal taken-type.the_row taken-laws.the_row_laws taken-laws.the_told taken-laws.the_row_plain taken-laws.the_row_copy

abbrev pub reported : Plain
reported = or-refusal answered-type.the_row answered-laws.the_row_laws answered-laws.the_told answered-laws.the_row_plain answered-laws.the_row_copy

abbrev pub closing : Plain
closing = or-refusal (unit-field).row (type.of_field unit-field unit-laws refl (copy_shared unit-field unit-copy)) (type.field_told unit-field unit-laws) unit-plain (type.of_copyable unit-field unit-copy)

-- ---- what the calls ensure
abbrev pub arrives : Ensures connection arrival (request ∷ [])
arrives κs h xs r w = (w ≡ (arrive_of h xs.0).connection) × (told_arrival r ≡ (arrive_of h xs.0).answer)

abbrev pub takes : Ensures connection taken []
takes κs h xs r w = (w ≡ (take_of h).connection) × (told_taken r ≡ (take_of h).answer)

abbrev pub reports : Ensures connection reported (outcome ∷ [])
reports κs h xs r w = (w ≡ (report_of h xs.0).connection) × (told_reported r ≡ (report_of h xs.0).answer)

abbrev pub closes : Ensures connection closing []
closes κs h xs r w = (w ≡ (close_of h).connection) × (told_closing r ≡ (close_of h).answer)
