use borrow.Author.Tests.{ne_eqb}
use Rattle.resolving.proofs.operand_of.Goals as goal

pub returns-then-word-eq0 : goal.returns-then-word-eq0
returns-then-word-eq0 c = rw c.if-word-eq0.true

pub returns : goal.returns
returns c = rw (ne_eqb _ 0 c.if-word-eq0.false)
