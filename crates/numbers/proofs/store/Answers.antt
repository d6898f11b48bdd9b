-- `numbers::store` meets its contract. Assumes nothing.
use mathlib.Core.Path.{◌≡◌, refl, sym, ap, ◌∙◌}
use Prim.Native.Nat.{ℕ, suc, ◌+◌, ◌-◌}
use native.Mathlib.Omega.{arith}
use lib.Seq.{sets}
use Rattle.numbers.specs.BigEndian.{bytes_of}
use Rattle.numbers.proofs.BigEndian.{store-next}
use Rattle.numbers.proofs.store.Goals as goal

pub loop-i-init : goal.loop-i-init
loop-i-init c =
    let a = c.args in
    let at : a.at + 0 ≡ a.at = omega arith in
    let all : a.width - 0 ≡ a.width = omega arith in
    rw (at, all) refl

pub loop-i-preserved : goal.loop-i-preserved
loop-i-preserved c =
    let a = c.args in
    let l = c.loop-i in
    let left : ℕ = a.width - 1 - l.i in
    let one : a.width - l.i ≡ suc left = omega arith in
    let fewer : a.width - (l.i + 1) ≡ left = omega arith in
    let next : a.at + (l.i + 1) ≡ a.at + l.i + 1 = omega arith in
    rw (fewer, next) (store-next l.bytes (a.at + l.i) left a.number ∙ ap (λ (j : ℕ). sets l.bytes (a.at + l.i) (bytes_of j a.number)) (sym one) ∙ l.invariant)

pub returns-clause-filled : goal.returns-clause-filled
unfolding bytes_of
returns-clause-filled c =
    let a = c.args in
    let l = c.loop-i in
    let e : 0 ≡ a.width - l.i = omega arith in
    ap (λ (j : ℕ). sets l.bytes (a.at + l.i) (bytes_of j a.number)) e ∙ l.invariant
