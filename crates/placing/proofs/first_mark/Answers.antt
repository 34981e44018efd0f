use Rattle.ground.proofs.Tests.{tests}
use Rattle.placing.proofs.first_mark.Goals as goal

pub returns-then-kind-eq1 : goal.returns-then-kind-eq1
returns-then-kind-eq1 c = search tests

pub returns-then-kind-eq2 : goal.returns-then-kind-eq2
returns-then-kind-eq2 c = search tests

pub returns : goal.returns
returns c = search tests
