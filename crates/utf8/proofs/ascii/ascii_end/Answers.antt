-- `utf8::ascii::ascii_end` meets its contract. The loop's invariant: `at` lies in the run, and the list has eight bytes. Assumes nothing.
use mathlib.Core.Path.{◌≡◌, sym, ap, ◌∙◌}
use Prim.Native.Nat.{ℕ, ◌+◌, ◌-◌, ◌*◌, ◌/◌}
use native.Mathlib.Omega.{arith}
use lib.ListN.{length, drop}
use Rattle.slices.specs.Parts.{part}
use Rattle.utf8.specs.Private.Ascii.{ascii_run}
use Rattle.utf8.proofs.Runs.{in-run, run-begins, run-of-one, in-run-past, tested, ends-among, ends-in-rest, ends-with-list}
use Rattle.utf8.proofs.ascii.ascii_end.Goals as goal

pub returns-then-bytes-start-lt8 : goal.returns-then-bytes-start-lt8
returns-then-bytes-start-lt8 c =
    let s = c.args.bytes.now in
    let e : length s - c.args.start - 1 ≡ length s - (c.args.start + 1) = omega arith in
    let first = in-run-past (in-run s c.args.start (omega arith)) 1 (run-begins s c.args.start c.requires.0 c.requires.1) in
    c.past_bytes.ensures ∙ ap (λ (k : ℕ). c.args.start + 1 + ascii_run (part s (c.args.start + 1) k)) e ∙ ends-in-rest first

pub returns-then-bytes-start-ge128 : goal.returns-then-bytes-start-ge128
returns-then-bytes-start-ge128 c =
    let s = c.args.bytes.now in
    ap (λ (k : ℕ). c.args.start + k) (run-of-one s c.args.start c.requires.0 c.requires.1 c.if-bytes-start-ge128.true)

pub loop-at-init : goal.loop-at-init
loop-at-init c = (in-run c.args.bytes.now c.args.start (omega arith), omega arith)

pub overflow_sub-bytes-in-loop-at : goal.overflow_sub-bytes-in-loop-at
overflow_sub-bytes-in-loop-at c = c.loop-at.invariant.0.within

pub is_ascii_word-requires : goal.is_ascii_word-requires
is_ascii_word-requires c = omega (arith, c.loop-at.invariant.0.within)

pub past_bytes-requires-then-not-is_ascii_word : goal.past_bytes-requires-then-not-is_ascii_word
past_bytes-requires-then-not-is_ascii_word c = omega (arith, c.loop-at.invariant.0.within)

pub returns-then-not-is_ascii_word : goal.returns-then-not-is_ascii_word
returns-then-not-is_ascii_word c =
    let l = c.loop-at in
    c.past_bytes-then-not-is_ascii_word.ensures ∙ ends-among l.invariant.0 7 (sym c.is_ascii_word.ensures ∙ c.if-not-is_ascii_word.true)

pub past_blocks-at-requires : goal.past_blocks-at-requires
past_blocks-at-requires c = omega (arith, c.loop-at.invariant.0.within)

pub loop-at-smaller : goal.loop-at-smaller
loop-at-smaller c = omega (arith, c.past_blocks-at.ensures)

pub loop-at-preserved : goal.loop-at-preserved
loop-at-preserved c =
    let l = c.loop-at in
    let s = c.args.bytes.now in
    let clear = sym c.is_ascii_word.ensures ∙ c.if-not-is_ascii_word.false in
    let eight = in-run-past l.invariant.0 8 (tested s l.at 8 (omega (arith, l.invariant.0.within)) clear) in
    let blocks = in-run-past eight (ascii_run (drop (l.at + 8) s) / 64 * 64) (omega arith) in
    (rw c.past_blocks-at.ensures blocks, l.invariant.1)

pub overflow_sub-bytes-2 : goal.overflow_sub-bytes-2
overflow_sub-bytes-2 c = c.loop-at.invariant.1

pub is_ascii_word-requires-2 : goal.is_ascii_word-requires-2
is_ascii_word-requires-2 c = omega (arith, c.loop-at.invariant.1)

pub returns-then-is_ascii_word : goal.returns-then-is_ascii_word
returns-then-is_ascii_word c =
    let l = c.loop-at in
    ends-with-list l.invariant.0 8 l.invariant.1 (omega arith) (sym c.is_ascii_word-2.ensures ∙ c.if-is_ascii_word.true)

pub overflow_sub-bytes-3 : goal.overflow_sub-bytes-3
overflow_sub-bytes-3 c = c.loop-at.invariant.0.within

pub past_bytes-requires-2 : goal.past_bytes-requires-2
past_bytes-requires-2 c = omega (arith, c.loop-at.invariant.0.within)

pub returns : goal.returns
returns c = c.past_bytes-2.ensures ∙ ends-in-rest c.loop-at.invariant.0
