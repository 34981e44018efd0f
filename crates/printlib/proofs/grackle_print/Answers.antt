use mathlib.Core.Path.{ap}
use Rattle.printlib.specs.Filled.{printed_of}
use Rattle.printlib.proofs.grackle_print.Goals as goal

pub returns : goal.returns
returns c = rw c.tell.ensures (ap printed_of c.print_text.ensures)
