use mathlib.Core.Path.{◌≡◌, refl}
use Prim.Native.Nat.{◌+◌, ◌-◌}
use native.Mathlib.Nat.{add-zero}
use native.Mathlib.Omega.{arith}
use Rattle.blanks.proofs.Zeros.{zero_more}
use Rattle.blanks.proofs.words_ahead.Goals as goal

pub loop-k-init : goal.loop-k-init
loop-k-init c = (omega arith, omega arith, λ e. rw add-zero refl)

pub overflow_add-count : goal.overflow_add-count
overflow_add-count c = omega (arith, c.some_word-count.ensures.0)

pub loop-k-preserved : goal.loop-k-preserved
loop-k-preserved c =
    let p = c in
    let a = c.args in
    (omega (arith, c.some_word-count.ensures.0), omega arith, λ e. zero_more a.table.now a.i (a.i + p.loop-k.k) (a.i + (p.loop-k.k + 1)) (omega arith) (c.some_word-count.ensures.1 (omega arith)) (omega arith) (p.loop-k.invariant.2 (omega (arith, c.some_word-count.ensures.0))))

pub returns : goal.returns
returns c = let p = c in
    let k : p.loop-k.k ≡ 128 = omega arith in rw k at p.loop-k.invariant.2
