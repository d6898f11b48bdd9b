-- `writer::put_chunk` meets its contract. Assumes nothing.
use mathlib.Core.Path.{ap, ◌∙◌}
use mathlib.Core.List.{List}
use Prim.Native.Nat.{ℕ}
use native.Mathlib.Nat.{le_refl}
use native.Mathlib.Omega.{arith}
use lib.ListN.{length, length-set}
use lib.Seq.{sets, take_all}
use Rattle.framing.specs.Chunking.{chunk_of}
use Rattle.framing.proofs.Chunking.{put-chunk}
use Rattle.framing.proofs.writer.put_chunk.Goals as goal

pub bounds-out-to-2 : goal.bounds-out-to-2
bounds-out-to-2 c = simp length-set (omega arith)

pub returns : goal.returns
returns c =
    let a = c.args in
    let s : List ℕ = a.chunk.now in
    c.copy.ensures.filled
    ∙ put-chunk s a.out.now 0 (length s) a.to c.requires.0 (omega arith) c.requires.1 (simp length-set)
    ∙ ap (λ (v : List ℕ). sets a.out.now a.to (chunk_of v)) (take_all (length s) s (le_refl (length s)))
