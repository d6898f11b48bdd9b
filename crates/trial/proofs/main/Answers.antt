-- `trial::main` lends as much memory as `serve` asks for. Assumes nothing.
use Rattle.std.proofs.Common.{ℕ, arith}
use lib.ListN.{length-replicate}
use Rattle.trial.proofs.main.Goals as goal

pub serve-requires : goal.serve-requires
serve-requires c = (omega (arith, length-replicate {A = ℕ} 40001 0), omega (arith, length-replicate {A = ℕ} 281600 0))
