use Rattle.ground.proofs.Tests.{tests}
use Rattle.assigning.proofs.input_width.Goals as goal

pub returns-then-kind-eq1 : goal.returns-then-kind-eq1
returns-then-kind-eq1 c = search tests

pub returns : goal.returns
returns c = search tests
