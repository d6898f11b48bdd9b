-- `entries::view::entry_under` meets its contract: a name's place is the one of its number. Assumes nothing.
use mathlib.Core.Path.{ap, sym, ◌∙◌}
use Prim.Native.Nat.{ℕ}
use lib.ListN.{get_or}
use Rattle.entries.specs.Walk.{entry_at}
use Rattle.entries.proofs.Naming.{index-of-text}
use Rattle.entries.proofs.view.entry_under.Goals as goal

pub returns : goal.returns
returns c = c.entry_at.ensures ∙ ap (λ (k : ℕ). entry_at c.args.message.now (get_or c.args.found.now k 0)) (sym (index-of-text c.args.name))
