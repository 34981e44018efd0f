use Rattle.ground.proofs.Tests.{tests}
use Rattle.listcheck.proofs.both_earlier.Goals as goal

pub returns-then-first-k : goal.returns-then-first-k
returns-then-first-k c = search tests

pub returns : goal.returns
returns c = search tests
