use mathlib.Core.Path.{◌≡◌}
use mathlib.Core.List.{[]}
use Prim.Native.Nat.{◌+◌, ◌-◌}
use native.Mathlib.Nat.{add-zero}
use native.Mathlib.Omega.{arith}
use Rattle.scanning.proofs.Plain.{skip_none, skip_more}
use Rattle.scanning.proofs.scan.odd_ahead.Goals as goal

pub loop-k-init : goal.loop-k-init
loop-k-init c = (omega arith, omega arith, λ e. rw add-zero (skip_none c.args.text.now [] c.args.i (omega arith)))

pub overflow_add-count : goal.overflow_add-count
overflow_add-count c = omega (arith, c.odd-count.ensures.0)

pub loop-k-preserved : goal.loop-k-preserved
loop-k-preserved c =
    let p = c in
    let a = c.args in
    (omega arith, omega (arith, c.odd-count.ensures.0), λ e. skip_more a.text.now a.i (a.i + p.loop-k.k) _ (p.loop-k.invariant.2 (omega arith)) (omega arith) (c.odd-count.ensures.1 (omega arith)) (omega arith))

pub returns : goal.returns
returns c = let p = c in
    let k : p.loop-k.k ≡ 64 = omega arith in rw k at p.loop-k.invariant.2
