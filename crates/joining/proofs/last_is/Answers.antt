use Rattle.ground.proofs.Tests.{tests}
use Rattle.joining.proofs.last_is.Goals as goal

pub returns-then-first-n : goal.returns-then-first-n
returns-then-first-n c = search tests

pub returns : goal.returns
returns c = search tests
