use borrow.Author.Tests.{eq-eqb, ne_eqb}
use Rattle.cellruns.proofs.operands.base_bare.Goals as goal

pub returns-then-token-eq4 : goal.returns-then-token-eq4
returns-then-token-eq4 c = rw (eq-eqb _ 4 c.if-token-eq4.true)

pub returns : goal.returns
returns c = rw (ne_eqb _ 4 c.if-token-eq4.false)
