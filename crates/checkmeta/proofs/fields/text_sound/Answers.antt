use Rattle.ground.proofs.Tests.{tests}
use Rattle.checkmeta.proofs.fields.text_sound.Goals as goal

pub returns-then-kind-eq8 : goal.returns-then-kind-eq8
returns-then-kind-eq8 c = search tests

pub returns : goal.returns
returns c = search tests
