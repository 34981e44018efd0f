use Rattle.ground.proofs.Tests.{tests}
use Rattle.placing.proofs.turns.waited_by.Goals as goal

pub returns-then-mark-eq0 : goal.returns-then-mark-eq0
returns-then-mark-eq0 c = search tests

pub returns-then-mark-row : goal.returns-then-mark-row
returns-then-mark-row c = search tests

pub returns : goal.returns
returns c = search tests
