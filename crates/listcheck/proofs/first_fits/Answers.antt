use Rattle.ground.proofs.Tests.{tests}
use Rattle.listcheck.proofs.first_fits.Goals as goal

pub returns-then-r-lt3 : goal.returns-then-r-lt3
returns-then-r-lt3 c = search tests

pub returns-then-r-eq3 : goal.returns-then-r-eq3
returns-then-r-eq3 c = search tests

pub returns : goal.returns
returns c = search tests
