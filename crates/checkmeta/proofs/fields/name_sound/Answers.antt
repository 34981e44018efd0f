use Rattle.ground.proofs.Tests.{tests}
use Rattle.checkmeta.proofs.fields.name_sound.Goals as goal

pub returns-then-kind-eq1 : goal.returns-then-kind-eq1
returns-then-kind-eq1 c = search tests

pub returns-then-kind-eq4 : goal.returns-then-kind-eq4
returns-then-kind-eq4 c = search tests

pub returns-then-size-lt1 : goal.returns-then-size-lt1
returns-then-size-lt1 c = search tests

pub returns : goal.returns
returns c = search tests
