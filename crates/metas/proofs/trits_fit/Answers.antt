use Rattle.noting.proofs.Passing.{tests}
use Rattle.metas.proofs.trits_fit.Goals as goal

pub returns-then-kind-eq6 : goal.returns-then-kind-eq6
returns-then-kind-eq6 c = search (tests, c.wide.ensures)

pub returns : goal.returns
returns c = search tests
