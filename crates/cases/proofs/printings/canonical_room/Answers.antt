use Rattle.cases.proofs.Filled.{filled}
use Rattle.cases.proofs.printings.canonical_room.Goals as goal

pub returns : goal.returns
returns c = filled 600000 7
