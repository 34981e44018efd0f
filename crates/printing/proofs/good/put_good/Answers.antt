use mathlib.Core.Path.{refl}
use Rattle.printing.proofs.Printing.{good_ready}
use Rattle.printing.proofs.good.put_good.Goals as goal

pub put_measured-requires : goal.put_measured-requires
put_measured-requires c = let s = c in (good_ready s.requires, refl, refl)
