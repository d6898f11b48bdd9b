-- `writer::put_chunks` meets its contract. Assumes nothing.
use mathlib.Core.Path.{ap, ◌∙◌}
use Prim.Native.Nat.{ℕ}
use native.Mathlib.Omega.{arith}
use lib.ListN.{length}
use Rattle.std.specs.Prelude.{min}
use Rattle.std.specs.Slice.Iter.{chunks_rest}
use Rattle.framing.proofs.Chunking.{chunk-fits, chunk-next, end_fits, end-done}
use Rattle.framing.proofs.writer.put_chunks.Goals as goal

pub put_chunk-requires : goal.put_chunk-requires
put_chunk-requires c =
    let l = c.loop-chunk in
    let s = c.in-Some.ensures.steps.1 in
    let n = s.1 ∙ ap (λ (k : ℕ). min k (length (chunks_rest l.chunk-iterator))) l.invariant.size in
    (omega (arith, n, c.requires.0.1), omega (arith, chunk-fits c.requires.0.0 c.requires.1 _ _ _ s.0 n s.2 l.invariant.put, l.auto.out))

pub loop-chunk-preserved : goal.loop-chunk-preserved
loop-chunk-preserved c =
    let l = c.loop-chunk in
    let s = c.in-Some.ensures.steps.1 in
    let n = s.1 ∙ ap (λ (k : ℕ). min k (length (chunks_rest l.chunk-iterator))) l.invariant.size in record {
      size = c.in-Some.ensures.steps.0 ∙ l.invariant.size;
      put = rw c.put_chunk.ensures (chunk-next c.requires.0.0 c.requires.1 _ _ _ s.0 n s.2 l.invariant.put);
    }

pub put_end-requires : goal.put_end-requires
put_end-requires c =
    let l = c.loop-chunk in
    omega (arith, end_fits c.requires.0.0 c.requires.1 _ c.in-None.ensures.steps.1.0 l.invariant.put, l.auto.out)

pub returns : goal.returns
returns c = c.put_end.ensures ∙ end-done c.requires.0.0 c.requires.1 _ c.in-None.ensures.steps.1.0 c.loop-chunk.invariant.put
