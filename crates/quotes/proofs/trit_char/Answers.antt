use Rattle.ground.proofs.Tests.{tests}
use Rattle.quotes.proofs.trit_char.Goals as goal

pub returns-then-t-eq2 : goal.returns-then-t-eq2
returns-then-t-eq2 c = search tests

pub returns : goal.returns
returns c = search tests
