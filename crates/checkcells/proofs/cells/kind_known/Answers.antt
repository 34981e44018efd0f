use Rattle.ground.proofs.Tests.{tests}
use Rattle.checkcells.proofs.cells.kind_known.Goals as goal

pub returns-then-kind-lt1 : goal.returns-then-kind-lt1
returns-then-kind-lt1 c = search tests

pub returns : goal.returns
returns c = search tests
