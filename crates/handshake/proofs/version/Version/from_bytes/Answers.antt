-- `Version::from_bytes` meets its contract. Assumes nothing.
use mathlib.Core.Path.{sym, ap, ◌∙◌}
use borrow.Author.Rules.{rules}
use native.Mathlib.Omega.{arith}
use Rattle.std.specs.Prelude.{ℕ, Some}
use Rattle.handshake.proofs.Proposals.{wrong_first, wrong_second, wrong-minor, wrong-major, right}
use Rattle.handshake.proofs.version.Version.from_bytes.Goals as goal

pub returns-in_default : goal.returns-in_default
returns-in_default c = wrong-major c.args.bytes (search rules) (omega arith) (omega arith) (λ e. omega (arith, e))

pub returns-in_default-2 : goal.returns-in_default-2
returns-in_default-2 c = wrong_second c.args.bytes (search rules) (omega arith) (λ e. omega (arith, e))

pub returns-in_default-3 : goal.returns-in_default-3
returns-in_default-3 c = wrong_first c.args.bytes (search rules) (λ e. omega (arith, e))

pub returns-in-0-minor : goal.returns-in-0-minor
returns-in-0-minor c = ap (λ (n : ℕ). Some n) (sym c.in-0-minor.is) ∙ right c.args.bytes (search rules) (omega arith) (omega arith) (omega arith) (omega arith)

pub returns-in-1 : goal.returns-in-1
returns-in-1 c = ap (λ (n : ℕ). Some n) (sym c.in-1.is) ∙ right c.args.bytes (search rules) (omega arith) (omega arith) (omega arith) (omega arith)

pub returns-in-2 : goal.returns-in-2
returns-in-2 c = ap (λ (n : ℕ). Some n) (sym c.in-2.is) ∙ right c.args.bytes (search rules) (omega arith) (omega arith) (omega arith) (omega arith)

pub returns-in_default-minor : goal.returns-in_default-minor
returns-in_default-minor c = wrong-minor c.args.bytes (search rules) (omega arith) (omega arith) (omega arith)
