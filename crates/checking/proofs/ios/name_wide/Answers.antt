use Rattle.ground.proofs.Tests.{tests}
use Rattle.checking.proofs.ios.name_wide.Goals as goal

pub returns-then-size-lt1 : goal.returns-then-size-lt1
returns-then-size-lt1 c = search tests

pub returns : goal.returns
returns c = search tests
