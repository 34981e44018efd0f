use Rattle.cases.proofs.Filled.{filled}
use Rattle.cases.proofs.room_for_all.Goals as goal

pub returns : goal.returns
returns c = filled 1048576 0
