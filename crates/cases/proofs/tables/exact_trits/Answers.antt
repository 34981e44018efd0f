use Rattle.cases.proofs.Filled.{filled}
use Rattle.cases.proofs.tables.exact_trits.Goals as goal

pub returns : goal.returns
returns c = filled 393728 7
