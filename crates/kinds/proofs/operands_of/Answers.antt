use native.Mathlib.Omega.{arith}
use Rattle.kinds.proofs.Numbers.{operands_at, no_kind_lem}
use Rattle.kinds.proofs.operands_of.Goals as goal

pub returns-then-k-lt13 : goal.returns-then-k-lt13
returns-then-k-lt13 c = operands_at c.args.kind c.if-k-lt13.true

pub returns-else-k-lt13 : goal.returns-else-k-lt13
returns-else-k-lt13 c = rw (no_kind_lem c.args.kind (omega arith))
