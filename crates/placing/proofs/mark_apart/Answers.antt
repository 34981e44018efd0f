use Rattle.placing.proofs.Seeking.{begin, begin_more, begun}
use native.Mathlib.Omega.{arith}
use Rattle.placing.proofs.mark_apart.Goals as goal

pub loop-i-init : goal.loop-i-init
loop-i-init c = (omega arith, begin _ _ c.requires.2)

pub loop-i-preserved : goal.loop-i-preserved
loop-i-preserved c = let l = c.loop-i in (omega arith, begin_more l.invariant.1 (omega arith) _ c.first_mark.ensures)

pub shape_of-marks : goal.shape_of-marks
shape_of-marks c = let s = c in omega (arith, c.loop-i.invariant.1.long, (begin s.args.cells.now _ s.requires.2).long)

pub returns : goal.returns
returns c = begun c.loop-i.invariant.1 c.loop-i-test.false
