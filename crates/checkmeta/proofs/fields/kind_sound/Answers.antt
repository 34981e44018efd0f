use Rattle.ground.proofs.Tests.{tests}
use Rattle.checkmeta.proofs.fields.kind_sound.Goals as goal

pub returns-then-kind-lt1 : goal.returns-then-kind-lt1
returns-then-kind-lt1 c = search tests

pub returns : goal.returns
returns c = search tests
