use Rattle.placing.proofs.Going.{going_skip, going_still}
use native.Mathlib.Omega.{arith}
use Rattle.placing.proofs.turns.turn.Goals as goal

pub still_noted-requires : goal.still_noted-requires
still_noted-requires c = let s = c in (s.requires.1.long, omega (arith, s.requires.2, s.requires.0.few), (s.requires.1.notes _ s.requires.2).most)

pub returns-then-still_noted : goal.returns-then-still_noted
returns-then-still_noted c = let s = c in (going_still _ _ _ s.requires.0 s.requires.1 s.requires.2 _ c.still_noted.ensures c.if-still_noted.true, record { less = omega (arith, s.requires.2) })

pub returns-then-marks-low-eq1 : goal.returns-then-marks-low-eq1
returns-then-marks-low-eq1 c = let s = c in (going_skip _ _ _ s.requires.0 s.requires.1 s.requires.2 c.if-marks-low-eq1.true, record { less = omega (arith, s.requires.2) })

pub look-requires : goal.look-requires
look-requires c = let s = c in (s.requires.0, s.requires.1, s.requires.2, c.if-marks-low-eq1.false)

pub returns : goal.returns
returns c = c.look.ensures
