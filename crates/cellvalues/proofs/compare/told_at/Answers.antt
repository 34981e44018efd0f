use Rattle.ground.proofs.Tests.{tests}
use Rattle.trit.specs.Wide.{agree}
use Rattle.cellvalues.proofs.compare.told_at.Goals as goal

pub returns-then-a-lt2 : goal.returns-then-a-lt2
unfolding agree
returns-then-a-lt2 c = search tests

pub returns-else-a-lt2 : goal.returns-else-a-lt2
unfolding agree
returns-else-a-lt2 c = search tests

pub returns-else-a-b : goal.returns-else-a-b
unfolding agree
returns-else-a-b c = search tests
