use mathlib.Core.Bool.{true, false}
use Rattle.signs.proofs.Laws.{comment_at, comment_end_lem}
use mathlib.Core.Path.{refl}
use Prim.Native.Nat.{◌-◌}
use native.Mathlib.Omega.{arith}
use mathlib.Core.Bool.{true, false}
use borrow.Author.Tests.{eq-eqb, ne_eqb}
use borrow.Author.Rules.{rules}
use Rattle.spans.proofs.comment_end.Goals as goal

pub loop-i-init : goal.loop-i-init
loop-i-init c = (search rules, refl)

pub returns-then-class_at-eq2 : goal.returns-then-class_at-eq2
returns-then-class_at-eq2 c = let p = c in
    let t = p.args.text.now in
    cc (comment_at t p.loop-i.i true c.loop-i-test.true (rw (← c.class_at.ensures) (eq-eqb _ _ c.if-class_at-eq2.true)))

pub loop-i-preserved : goal.loop-i-preserved
loop-i-preserved c = let p = c in
    let t = p.args.text.now in
    (omega arith, cc (comment_at t p.loop-i.i false c.loop-i-test.true (rw (← c.class_at.ensures) (ne_eqb _ _ c.if-class_at-eq2.false))))

pub returns : goal.returns
returns c = cc (comment_end_lem c.args.text.now c.loop-i.i c.loop-i-test.false)
