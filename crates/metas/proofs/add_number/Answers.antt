use mathlib.Core.Path.{ap}
use Rattle.metas.specs.MetaRows.{wrote}
use Rattle.ground.specs.Regions.{part}
use Rattle.metas.proofs.add_number.Goals as goal

pub returns : goal.returns
unfolding part
returns c = let s = c in let a = s.args in ap (wrote 65536 65536 a.work.now) c.put_number.ensures
