-- `entries::view::view_at` meets its contract: a String lies inside the message. Assumes nothing.
use mathlib.Core.Path.{ap, sym, ◌∙◌}
use Rattle.std.specs.Prelude.{Some}
use Rattle.entries.specs.Walk.{string_found}
use Rattle.entries.proofs.Peeking.{string-within}
use Rattle.entries.proofs.view.view_at.Goals as goal

pub mode_named-requires : goal.mode_named-requires
mode_named-requires c = (string-within _ _ _ (ap string_found (ap Some (sym c.in-String.is) ∙ c.in_ok-peek.ensures))).inside
