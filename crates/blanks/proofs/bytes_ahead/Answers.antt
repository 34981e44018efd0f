use mathlib.Core.Path.{◌≡◌, refl}
use Prim.Native.Nat.{◌+◌, ◌-◌}
use native.Mathlib.Nat.{add-zero}
use native.Mathlib.Omega.{arith}
use Rattle.blanks.proofs.Zeros.{zero_more}
use Rattle.blanks.proofs.bytes_ahead.Goals as goal

pub loop-k-init : goal.loop-k-init
loop-k-init c = (omega arith, λ e. rw add-zero refl)

pub loop-k-preserved : goal.loop-k-preserved
loop-k-preserved c =
    let p = c in
    let a = c.args in
    (omega arith, λ e. zero_more a.pool.now a.i (a.i + p.loop-k.k) (a.i + (p.loop-k.k + 1)) (omega arith) (omega (arith, c.larger-most.ensures.1)) (omega arith) (p.loop-k.invariant.1 (omega (arith, c.larger-most.ensures.0))))

pub returns : goal.returns
returns c = let p = c in
    let k : p.loop-k.k ≡ 1024 = omega arith in rw k at p.loop-k.invariant.1
