use Rattle.ground.proofs.Tests.{tests}
use Rattle.placing.proofs.turns.on_from.Goals as goal

pub returns-then-mark-eq0 : goal.returns-then-mark-eq0
returns-then-mark-eq0 c = search tests

pub returns-then-row-mark : goal.returns-then-row-mark
returns-then-row-mark c = search tests

pub returns : goal.returns
returns c = search tests
