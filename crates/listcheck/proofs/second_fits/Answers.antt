use Rattle.ground.proofs.Tests.{tests}
use Rattle.listcheck.proofs.second_fits.Goals as goal

pub returns-then-r-le4 : goal.returns-then-r-le4
returns-then-r-le4 c = search tests

pub returns-then-r-eq8 : goal.returns-then-r-eq8
returns-then-r-eq8 c = search tests

pub returns : goal.returns
returns c = search tests
