use Rattle.ground.proofs.Tests.{tests}
use Rattle.numerals.proofs.ended.Goals as goal

pub returns-then-limit-n : goal.returns-then-limit-n
returns-then-limit-n c = search tests

pub returns : goal.returns
returns c = search tests
