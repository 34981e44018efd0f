use mathlib.Core.Path.{refl, sym, ◌∙◌}
use native.Mathlib.Omega.{arith}
use Rattle.trit.specs.Wide.{ult_bit}
use Rattle.cells.proofs.Places as places
use Rattle.cellvalues.proofs.compare.ult_bit.Goals as goal

pub loop-i-init : goal.loop-i-init
unfolding ult_bit
loop-i-init c = (c.least-n.ensures, refl)

pub loop-i-preserved : goal.loop-i-preserved
loop-i-preserved c =
    let l = c in
    let a = c.args in
    (l.loop-i.invariant.0, rw (c.carry3-below.ensures, c.not3.ensures) (sym (places.ult_go a.a.now a.b.now l.loop-i.i (omega (arith, l.loop-i.invariant.0)) (omega (arith, l.loop-i.invariant.0)) l.loop-i.below) ∙ l.loop-i.invariant.1))

pub returns : goal.returns
returns c =
    let l = c in
    let a = c.args in
    sym (places.ult_end a.a.now a.b.now l.loop-i.i (omega (arith, l.loop-i.invariant.0)) l.loop-i.below) ∙ l.loop-i.invariant.1
