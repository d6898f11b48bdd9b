-- `writer::put_chunks` meets its contract: all of the output but what is left stands in front of the buffer. Assumes nothing.
use mathlib.Core.Path.{◌≡◌}
use Rattle.std.specs.Slice.Iter.{chunks_rest, chunks_size}
use Rattle.slices.proofs.Pieces.{Put}
use Rattle.framing.specs.Chunking.{chunked}
use Rattle.framing.proofs.writer.put_chunks.Given as goal

abbrev pub invariant-loop-chunk : goal.invariant-loop-chunk
invariant-loop-chunk l = record {
  size : chunks_size l.chunk-iterator ≡ l.chunk_size;
  put : Put (chunked l.chunk_size l.message) l.initial.out l.out l.to (chunked l.chunk_size (chunks_rest l.chunk-iterator));
}
