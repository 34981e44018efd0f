use Rattle.ground.proofs.Tests.{tests}
use Rattle.pools.proofs.lies_at.Goals as goal

pub returns-then-start-at : goal.returns-then-start-at
returns-then-start-at c = search tests

pub returns : goal.returns
returns c = search tests
