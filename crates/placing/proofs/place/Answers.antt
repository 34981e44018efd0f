use native.Mathlib.Omega.{arith}
use Rattle.placing.proofs.Going.{going_start, end_all}
use Rattle.placing.proofs.place.Goals as goal

pub mark_apart-requires : goal.mark_apart-requires
mark_apart-requires c = let s = c in (s.requires.0.cells_long, s.requires.0.few, s.requires.2)

pub place_rows-count-requires : goal.place_rows-count-requires
place_rows-count-requires c = let s = c in (s.requires.0, going_start _ _ _ s.requires.0 _ _ s.requires.1 c.mark_apart.ensures)

pub left_out-ring-requires : goal.left_out-ring-requires
left_out-ring-requires c = let s = c in omega (arith, c.place_rows-count.ensures.long, s.requires.0.few)

pub returns : goal.returns
returns c = let s = c in end_all _ _ _ s.requires.0 c.place_rows-count.ensures _ _ c.clear_words.ensures c.left_out-ring.ensures
