use native.Mathlib.Omega.{arith}
use Rattle.placing.proofs.Going.{going_rows, going_last}
use Rattle.placing.proofs.turns.place_rows.Goals as goal

pub loop-low-smaller : goal.loop-low-smaller
loop-low-smaller c = c.turn-at.ensures.1.less

pub loop-low-preserved : goal.loop-low-preserved
loop-low-preserved c = c.turn-at.ensures.0

pub shape_of-rows : goal.shape_of-rows
shape_of-rows c = let s = c in omega (arith, going_rows _ _ _ s.requires.0 c.loop-low.invariant, going_rows _ _ _ s.requires.0 s.requires.1)

pub shape_of-marks : goal.shape_of-marks
shape_of-marks c = let s = c in omega (arith, c.loop-low.invariant.long, s.requires.1.long)

pub returns : goal.returns
returns c = going_last _ _ _ c.requires.0 c.loop-low.invariant c.loop-low-test.false
