use Rattle.ground.proofs.Tests.{tests}
use Rattle.checkmeta.proofs.fields.members_sound.Goals as goal

pub returns-then-kind-eq1 : goal.returns-then-kind-eq1
returns-then-kind-eq1 c = search tests

pub returns : goal.returns
returns c = search tests
