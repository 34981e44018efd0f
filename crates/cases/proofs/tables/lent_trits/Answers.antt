use Rattle.cases.proofs.Filled.{filled}
use Rattle.cases.proofs.tables.lent_trits.Goals as goal

pub returns : goal.returns
returns c = filled 393729 7
