use Rattle.ground.proofs.Tests.{tests}
use Rattle.printing.proofs.good.is_bare.Goals as goal

pub returns-then-rows-ne0 : goal.returns-then-rows-ne0
returns-then-rows-ne0 c = search tests

pub returns-then-rows-ne0-2 : goal.returns-then-rows-ne0-2
returns-then-rows-ne0-2 c = search tests

pub returns : goal.returns
returns c = search tests
