use Rattle.ground.proofs.Tests.{tests}
use Rattle.operands.proofs.is_whole.Goals as goal

pub returns-then-o-eq0 : goal.returns-then-o-eq0
returns-then-o-eq0 c = search tests

pub returns : goal.returns
returns c = search tests
