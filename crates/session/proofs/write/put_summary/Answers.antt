-- `write::put_summary` meets its contract: a summary is shorter than a chunk, so that neither writer refuses it. Assumes nothing.
use Rattle.std.proofs.Common.{◌≡◌, sym, ap, arith, length, take, replicate, length-take-le}
use Rattle.std.specs.Result.{is_ok}
use Rattle.summaries.specs.Summaries.{pack_summary}
use Rattle.session.specs.Session.{summary_line}
use Rattle.session.proofs.Writing.{length-line, packed, packed-fits, packed-bytes, chunked-ok, chunk-fits, chunk_bytes}
use Rattle.session.proofs.write.put_summary.Goals as goal

pub unwrap-size-requires : goal.unwrap-size-requires
unwrap-size-requires c =
    let p = c.pack_summary in
    ap is_ok (packed c.args.summary (replicate 80 0) _ p.result (p.ensures.answer, p.ensures.filled) (omega arith))

pub slice_bounds-write_chunks-end : goal.slice_bounds-write_chunks-end
slice_bounds-write_chunks-end c =
    let p = c.pack_summary in
    sym (length-take-le c.unwrap-size.result p.new.out (omega (arith, packed-fits c.args.summary (replicate 80 0) _ p.result (p.ensures.answer, p.ensures.filled) (omega arith) _ c.unwrap-size.ensures)))

pub unwrap-n-requires : goal.unwrap-n-requires
unwrap-n-requires c =
    let p = c.pack_summary in
    let w = c.write_chunks in
    let b : take c.unwrap-size.result p.new.out ≡ pack_summary c.args.summary = packed-bytes c.args.summary (replicate 80 0) _ p.result (p.ensures.answer, p.ensures.filled) (omega arith) _ c.unwrap-size.ensures in
    ap is_ok (chunked-ok c.args.summary _ (replicate 84 0) _ w.result b w.ensures.answer w.ensures.filled (omega arith))

pub slice_bounds-put_line-end : goal.slice_bounds-put_line-end
slice_bounds-put_line-end c =
    let p = c.pack_summary in
    let w = c.write_chunks in
    let b : take c.unwrap-size.result p.new.out ≡ pack_summary c.args.summary = packed-bytes c.args.summary (replicate 80 0) _ p.result (p.ensures.answer, p.ensures.filled) (omega arith) _ c.unwrap-size.ensures in
    sym (length-take-le c.unwrap-n.result w.new.out (omega (arith, chunk-fits c.args.summary _ (replicate 84 0) _ w.result b w.ensures.answer w.ensures.filled (omega arith) _ c.unwrap-n.ensures)))

pub put_line-requires : goal.put_line-requires
put_line-requires c =
    let p = c.pack_summary in
    let w = c.write_chunks in
    let b : take c.unwrap-size.result p.new.out ≡ pack_summary c.args.summary = packed-bytes c.args.summary (replicate 80 0) _ p.result (p.ensures.answer, p.ensures.filled) (omega arith) _ c.unwrap-size.ensures in
    let l : take c.unwrap-n.result w.new.out ≡ summary_line c.args.summary = chunk_bytes c.args.summary _ (replicate 84 0) _ w.result b w.ensures.answer w.ensures.filled (omega arith) _ c.unwrap-n.ensures in
    omega (arith, c.requires, ap length l, length-line (summary_line c.args.summary))

pub returns : goal.returns
returns c =
    let p = c.pack_summary in
    let w = c.write_chunks in
    let b : take c.unwrap-size.result p.new.out ≡ pack_summary c.args.summary = packed-bytes c.args.summary (replicate 80 0) _ p.result (p.ensures.answer, p.ensures.filled) (omega arith) _ c.unwrap-size.ensures in
    let l : take c.unwrap-n.result w.new.out ≡ summary_line c.args.summary = chunk_bytes c.args.summary _ (replicate 84 0) _ w.result b w.ensures.answer w.ensures.filled (omega arith) _ c.unwrap-n.ensures in
    record { answer = rw (← l) c.put_line.ensures.answer; filled = rw (← l) c.put_line.ensures.filled }
