use Rattle.ground.proofs.Tests.{tests}
use Rattle.checkmeta.proofs.fields.bad_range.Goals as goal

pub returns-then-line-ge2147483648 : goal.returns-then-line-ge2147483648
returns-then-line-ge2147483648 c = search tests

pub returns-then-column-ge2147483648 : goal.returns-then-column-ge2147483648
returns-then-column-ge2147483648 c = search tests

pub returns-then-lastline-ge2147483648 : goal.returns-then-lastline-ge2147483648
returns-then-lastline-ge2147483648 c = search tests

pub returns-then-lastcolumn-ge2147483648 : goal.returns-then-lastcolumn-ge2147483648
returns-then-lastcolumn-ge2147483648 c = search tests

pub returns-then-lastline-line : goal.returns-then-lastline-line
returns-then-lastline-line c = search tests

pub returns-then-lastline-line-2 : goal.returns-then-lastline-line-2
returns-then-lastline-line-2 c = search tests

pub returns : goal.returns
returns c = search tests
