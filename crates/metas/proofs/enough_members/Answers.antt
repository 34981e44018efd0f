use Rattle.noting.proofs.Passing.{tests}
use Rattle.metas.proofs.enough_members.Goals as goal

pub returns-then-kind-eq1 : goal.returns-then-kind-eq1
returns-then-kind-eq1 c = search tests

pub returns : goal.returns
returns c = search tests
