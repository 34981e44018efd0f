use Rattle.ground.proofs.Tests.{tests}
use Rattle.numbering.proofs.taken_by.Goals as goal

pub returns-then-w-eq0 : goal.returns-then-w-eq0
returns-then-w-eq0 c = search tests

pub returns : goal.returns
returns c = search tests
