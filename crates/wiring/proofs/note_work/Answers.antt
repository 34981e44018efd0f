use Rattle.wiring.proofs.CellRegions.{work_with}
use Rattle.ground.specs.Regions.{part}
use Rattle.wiring.proofs.note_work.Goals as goal

pub returns : goal.returns
unfolding part
returns c = let s = c in let a = s.args in work_with a.n a.index a.w a.work.now _ _ s.requires.0 c.put_places.ensures c.put_number.ensures
