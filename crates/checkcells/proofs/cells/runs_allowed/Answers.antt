use Rattle.ground.proofs.Tests.{tests}
use Rattle.checkcells.proofs.cells.runs_allowed.Goals as goal

pub returns-then-operand-operands : goal.returns-then-operand-operands
returns-then-operand-operands c = search tests

pub returns : goal.returns
returns c = search tests
