use Rattle.ground.proofs.Tests.{tests}
use Rattle.wiring.proofs.output_bits.Goals as goal

pub returns-then-w-eq2 : goal.returns-then-w-eq2
returns-then-w-eq2 c = search tests

pub returns : goal.returns
returns c = search tests
