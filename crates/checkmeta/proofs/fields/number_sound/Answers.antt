use Rattle.ground.proofs.Tests.{tests}
use Rattle.checkmeta.proofs.fields.number_sound.Goals as goal

pub returns-then-kind-eq4 : goal.returns-then-kind-eq4
returns-then-kind-eq4 c = search tests

pub returns-then-kind-eq7 : goal.returns-then-kind-eq7
returns-then-kind-eq7 c = search tests

pub returns : goal.returns
returns c = search tests
