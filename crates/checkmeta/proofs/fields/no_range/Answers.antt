use Rattle.ground.proofs.Tests.{tests}
use Rattle.checkmeta.proofs.fields.no_range.Goals as goal

pub returns-then-line-ne0 : goal.returns-then-line-ne0
returns-then-line-ne0 c = search tests

pub returns-then-column-ne0 : goal.returns-then-column-ne0
returns-then-column-ne0 c = search tests

pub returns-then-lastline-ne0 : goal.returns-then-lastline-ne0
returns-then-lastline-ne0 c = search tests

pub returns : goal.returns
returns c = search tests
