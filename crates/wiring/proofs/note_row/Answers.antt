use Rattle.wiring.specs.CellAdding.{cell_words}
use native.Mathlib.Omega.{arith}
use Prim.Native.Nat.{◌*◌}
use Rattle.wiring.proofs.CellRegions.{region_sets}
use Rattle.ground.specs.Regions.{part}
use Rattle.wiring.proofs.note_row.Goals as goal

pub returns : goal.returns
unfolding part
returns c = let s = c in let a = s.args in region_sets 9411 4608 a.rows.now _ (omega (arith, s.requires.0)) (a.n * 9) (cell_words a.w a.meta a.counts) c.put_cell.ensures
