use mathlib.Core.Path.{◌≡◌, refl}
use native.Mathlib.Omega.{arith}
use Rattle.cells.proofs.Filling.{start, turn, ended, full}
use Rattle.cells.proofs.Places as places
use Rattle.cellvalues.proofs.adc.put_adc.Goals as goal

pub loop-i-init : goal.loop-i-init
loop-i-init c = (rw c.least.ensures at c.least-n.ensures, start _ _ _)

pub loop-i-preserved : goal.loop-i-preserved
loop-i-preserved c =
    let l = c in
    let a = c.args in
    (l.loop-i.invariant.0, turn l.loop-i.invariant.1 (rw (← c.carry3-carry.ensures) at (places.adc_go a.a.now a.b.now l.loop-i.i (omega (arith, l.loop-i.invariant.0)) (omega (arith, l.loop-i.invariant.0)) l.loop-i.carry)) (rw c.xor3.ensures at c.xor3-in-loop-i.ensures))

pub shape_of-out-then-out-n : goal.shape_of-out-then-out-n
shape_of-out-then-out-n c = c.loop-i.invariant.1.long

pub returns-then-out-n : goal.returns-then-out-n
returns-then-out-n c = full c.loop-i.invariant.1 (omega (arith, c.if-out-n.true, c.loop-i.invariant.1.long))

pub returns : goal.returns
returns c =
    let l = c in
    let a = c.args in
    let e : l.loop-i.i ≡ c.least-n.result = omega arith in
    let inv = rw e at l.loop-i.invariant.1 in
    ended (turn inv (places.adc_end a.a.now a.b.now c.least-n.result (omega (arith, l.loop-i.invariant.0, inv.long, c.if-out-n.false)) l.loop-i.carry) refl) refl
