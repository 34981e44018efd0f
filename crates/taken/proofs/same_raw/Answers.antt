use borrow.Author.Tests.{eq-eqb, ne_eqb}
use Rattle.taken.proofs.same_raw.Goals as goal

pub returns-then-b-eq92 : goal.returns-then-b-eq92
returns-then-b-eq92 c = rw (eq-eqb _ _ c.if-b-eq92.true)

pub returns : goal.returns
returns c = rw (ne_eqb _ _ c.if-b-eq92.false)
