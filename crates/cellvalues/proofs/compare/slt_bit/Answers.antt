use mathlib.Core.Path.{◌≡◌, refl, sym, ◌∙◌}
use Prim.Native.Nat.{◌-◌}
use native.Mathlib.Omega.{arith}
use lib.ListN.{length}
use Rattle.trit.specs.Wide.{slt_bit}
use Rattle.cells.proofs.Places as places
use Rattle.cellvalues.proofs.compare.slt_bit.Goals as goal

pub returns-then-a-eq0 : goal.returns-then-a-eq0
returns-then-a-eq0 c = let a = c.args in sym (places.slt_none a.a.now a.b.now c.if-a-eq0.true)

pub loop-i-init : goal.loop-i-init
unfolding slt_bit
loop-i-init c = (omega arith, c.least-n.ensures, omega arith, refl)

pub loop-i-preserved : goal.loop-i-preserved
loop-i-preserved c =
    let l = c in
    let a = c.args in
    (omega arith, l.loop-i.invariant.1, l.loop-i.invariant.2, rw (c.carry3-below.ensures, c.not3.ensures) (sym (places.slt_go a.a.now a.b.now l.loop-i.i l.loop-i.below (omega (arith, l.loop-i.invariant)) (omega (arith, l.loop-i.invariant))) ∙ l.loop-i.invariant.3))

pub returns-then-b-top : goal.returns-then-b-top
returns-then-b-top c =
    let l = c in
    let a = c.args in
    sym (places.slt_end a.a.now a.b.now l.loop-i.i l.loop-i.below (omega (arith, l.loop-i.invariant, c.if-b-top.true, c.loop-i-test.false))) ∙ l.loop-i.invariant.3

pub returns : goal.returns
returns c =
    let l = c in
    let a = c.args in
    let e : length a.a.now - 1 ≡ l.loop-i.i = omega (arith, l.loop-i.invariant, c.if-b-top.false, c.loop-i-test.false) in
    c.carry3.ensures ∙ rw (c.not3-2.ensures, e) (sym (places.slt_top a.a.now a.b.now l.loop-i.i l.loop-i.below (omega (arith, l.loop-i.invariant)) (omega (arith, l.loop-i.invariant, c.if-b-top.false))) ∙ l.loop-i.invariant.3)
