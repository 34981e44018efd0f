use Rattle.placing.proofs.Seeking.{note_none, note_over, note_holds}
use Prim.Native.Nat.{◌+◌}
use native.Mathlib.Omega.{arith}
use Rattle.placing.proofs.turns.still_noted.Goals as goal

pub overflow_cast-note : goal.overflow_cast-note
overflow_cast-note c = omega (arith, c.shared_slice_known-1.given (514 + c.args.row))

pub returns-then-note-eq0 : goal.returns-then-note-eq0
returns-then-note-eq0 c = note_none c.args.marks.now c.args.row c.if-note-eq0.true

pub returns-then-marks-at-eq1 : goal.returns-then-marks-at-eq1
returns-then-marks-at-eq1 c = let a = c.args in note_over a.marks.now a.row c.if-note-eq0.false c.if-marks-at-eq1.true

pub returns : goal.returns
returns c = let a = c.args in note_holds a.marks.now a.row c.if-note-eq0.false c.if-marks-at-eq1.false
