use mathlib.Core.Path.{ap}
use Rattle.printlib.specs.Filled.{named_of}
use Rattle.printlib.proofs.grackle_name.Goals as goal

pub returns : goal.returns
returns c = rw c.tell.ensures (ap named_of c.full_name.ensures)
