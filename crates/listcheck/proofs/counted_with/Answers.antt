use native.Mathlib.Omega.{arith}
use borrow.Author.Tests.{ne_eqb}
use Rattle.ground.proofs.Tests.{tests}
use Rattle.listcheck.proofs.counted_with.Goals as goal

pub returns-then-r-op : goal.returns-then-r-op
returns-then-r-op c = (search tests, omega arith)

pub returns : goal.returns
returns c = (simp (ne_eqb _ _ c.if-r-op.false) (omega arith), omega arith)
