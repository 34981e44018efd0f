use mathlib.Core.Path.{◌∙◌}
use Rattle.placing.proofs.Seeking.{look_hit, look_on, look_left}
use native.Mathlib.Omega.{arith}
use mathlib.Core.Path.{refl}
use Rattle.placing.proofs.left_out.Goals as goal

pub loop-k-init : goal.loop-k-init
loop-k-init c = (omega arith, refl)

pub returns-then-marks-k-ne1 : goal.returns-then-marks-k-ne1
returns-then-marks-k-ne1 c = let l = c.loop-k in look_hit c.args.marks.now l.k (omega (arith, c.loop-k-test.true)) c.if-marks-k-ne1.true ∙ l.invariant.1

pub loop-k-preserved : goal.loop-k-preserved
loop-k-preserved c = let l = c.loop-k in (omega arith, look_on c.args.marks.now l.k (omega (arith, c.loop-k-test.true)) c.if-marks-k-ne1.false ∙ l.invariant.1)

pub returns : goal.returns
returns c = look_left _ c.loop-k.k (omega (arith, c.loop-k-test.false)) ∙ c.loop-k.invariant.1
