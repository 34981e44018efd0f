use Rattle.ground.proofs.Tests.{tests}
use Rattle.checkmeta.proofs.fields.bits_sound.Goals as goal

pub returns-then-width-lt1 : goal.returns-then-width-lt1
returns-then-width-lt1 c = search tests

pub returns-then-kind-eq6 : goal.returns-then-kind-eq6
returns-then-kind-eq6 c = search tests

pub returns : goal.returns
returns c = search tests
