use mathlib.Core.Path.{ap}
use Rattle.readlib.specs.Seen.{seen_of}
use Rattle.readlib.proofs.grackle_read.Goals as goal

pub returns : goal.returns
returns c = rw c.tell_read.ensures (ap seen_of c.read_text.ensures)
