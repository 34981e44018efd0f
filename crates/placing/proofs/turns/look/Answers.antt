use Rattle.placing.proofs.Going.{note_there, going_wait, place_room, going_place, going_rows}
use lib.ListN.{length-set}
use native.Mathlib.Omega.{arith}
use Rattle.placing.proofs.turns.look.Goals as goal

pub bounds-marks-low : goal.bounds-marks-low
bounds-marks-low c = let s = c in simp length-set (omega (arith, note_there _ _ _ s.requires.0 s.requires.1 s.requires.2))

pub returns-then-on-n : goal.returns-then-on-n
returns-then-on-n c = let s = c in (going_wait _ _ _ s.requires.0 s.requires.1 s.requires.2 _ c.open_read-on.ensures c.if-on-n.true _ c.waited_by-new.ensures, record { less = omega (arith, s.requires.2) })

pub on_from-next-requires : goal.on_from-next-requires
on_from-next-requires c = let s = c in (omega (arith, s.requires.2, s.requires.0.few), s.requires.3)

pub bounds-rows-count : goal.bounds-rows-count
bounds-rows-count c = let s = c in omega (arith, place_room _ _ _ s.requires.0 s.requires.1 s.requires.2 s.requires.3, going_rows _ _ _ s.requires.0 s.requires.1, s.requires.0.few)

pub bounds-marks-low-4 : goal.bounds-marks-low-4
bounds-marks-low-4 c = let s = c in simp length-set (omega (arith, note_there _ _ _ s.requires.0 s.requires.1 s.requires.2))

pub returns : goal.returns
returns c = let s = c in let o = c.open_read-on.ensures in let m = place_room _ _ _ s.requires.0 s.requires.1 s.requires.2 s.requires.3 in (going_place _ _ _ s.requires.0 s.requires.1 s.requires.2 s.requires.3 _ (rw (← o) c.if-on-n.false) c.on_from-next.ensures, record { less = omega (arith, m, s.requires.0.few, s.requires.2) })
