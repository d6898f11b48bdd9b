-- `utf8::sequence_at` meets its contract, row by row. Assumes nothing.
use Rattle.std.proofs.Common.{ℕ, List, None, ◌≡◌, ◌≤◌, ◌<◌, ◌+◌, get_or, drop, refl, arith}
use Rattle.utf8.specs.Utf8.{leading_ones, sequence}
use Rattle.utf8.proofs.Sequences.{by_mask, some-ones, no_lead}
use Rattle.utf8.proofs.sequence_at.Goals as goal

-- the lead byte has neither two nor three nor four leading ones
fault : (lead : ℕ) (rest : List ℕ) → lead < 256 → 0x80 ≤ lead → (2 ≤ leading_ones lead → leading_ones lead ≤ 4 → ⊥)
    → None ≡ sequence lead rest
fault lead rest fits high none =
    no_lead lead rest (some-ones lead rest fits high) (λ e. none (omega (arith, e)) (omega (arith, e)))
    (λ e. none (omega (arith, e)) (omega (arith, e))) (λ e. none (omega (arith, e)) (omega (arith, e)))

pub returns-then-ones-lt2 : goal.returns-then-ones-lt2
returns-then-ones-lt2 c =
    fault _ _ (c.type_inv.bytes c.args.at).fits c.requires.1 (λ two four. omega (arith, two, c.if-ones-lt2.true))

pub returns-then-ones-lt3 : goal.returns-then-ones-lt3
returns-then-ones-lt3 c =
    let s = c.args.bytes.now in
    let lead = get_or s c.args.at 0 in
    let two : leading_ones lead ≡ 2 = omega (arith, c.if-ones-lt3.true, c.if-ones-lt2.false) in
    by_mask lead (drop (c.args.at + 1) s) 2 5 0x80 c.complete.result two c.complete.ensures refl

pub returns-then-ones-lt4 : goal.returns-then-ones-lt4
returns-then-ones-lt4 c =
    let s = c.args.bytes.now in
    let lead = get_or s c.args.at 0 in
    let three : leading_ones lead ≡ 3 = omega (arith, c.if-ones-lt3.false, c.if-ones-lt4.true) in
    let n = c.complete-then-ones-lt4 in
    by_mask lead (drop (c.args.at + 1) s) 3 4 0x800 n.result three n.ensures refl

pub returns-then-ones-lt5 : goal.returns-then-ones-lt5
returns-then-ones-lt5 c =
    let s = c.args.bytes.now in
    let lead = get_or s c.args.at 0 in
    let four : leading_ones lead ≡ 4 = omega (arith, c.if-ones-lt4.false, c.if-ones-lt5.true) in
    let n = c.complete-then-ones-lt5 in
    by_mask lead (drop (c.args.at + 1) s) 4 3 0x10000 n.result four n.ensures refl

pub returns : goal.returns
returns c =
    fault _ _ (c.type_inv.bytes c.args.at).fits c.requires.1 (λ two four. omega (arith, four, c.if-ones-lt5.false))
