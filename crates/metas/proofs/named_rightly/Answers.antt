use Rattle.noting.proofs.Passing.{tests}
use Rattle.metas.proofs.named_rightly.Goals as goal

pub returns-then-kind-eq1 : goal.returns-then-kind-eq1
returns-then-kind-eq1 c = search tests

pub returns-then-kind-eq4 : goal.returns-then-kind-eq4
returns-then-kind-eq4 c = search tests

pub returns-then-size-eq0 : goal.returns-then-size-eq0
returns-then-size-eq0 c = search tests

pub returns : goal.returns
returns c = search tests
