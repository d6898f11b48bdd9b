-- `writer::chunked_length` meets its contract. Assumes nothing.
use mathlib.Core.Path.{refl, sym, ◌∙◌}
use Prim.Native.Nat.{◌%◌}
use native.Mathlib.Nat.{div-le_self}
use native.Mathlib.Omega.{arith}
use lib.ListN.{length}
use Rattle.framing.proofs.Chunking.{length_chunked, closing-some}
use Rattle.framing.proofs.writer.chunked_length.Goals as goal

pub overflow_mul-whole : goal.overflow_mul-whole
overflow_mul-whole c = omega (arith, div-le_self (length c.args.message.now) c.args.chunk_size)

pub overflow_add-whole : goal.overflow_add-whole
overflow_add-whole c = omega (arith, div-le_self (length c.args.message.now) c.args.chunk_size)

pub overflow_add-whole-2 : goal.overflow_add-whole-2
overflow_add-whole-2 c = omega (arith, div-le_self (length c.args.message.now) c.args.chunk_size)

pub overflow_add-result : goal.overflow_add-result
overflow_add-result c = omega (arith, div-le_self (length c.args.message.now) c.args.chunk_size)

pub returns-then-n-chunk_size-eq0 : goal.returns-then-n-chunk_size-eq0
returns-then-n-chunk_size-eq0 c =
    let a = c.args in
    sym (length_chunked a.chunk_size a.message.now ∙ rw c.if-n-chunk_size-eq0.true refl)

pub returns-else-n-chunk_size-eq0 : goal.returns-else-n-chunk_size-eq0
returns-else-n-chunk_size-eq0 c =
    let a = c.args in
    sym (length_chunked a.chunk_size a.message.now ∙ rw (closing-some (length a.message.now % a.chunk_size) c.if-n-chunk_size-eq0.false) (omega arith))
