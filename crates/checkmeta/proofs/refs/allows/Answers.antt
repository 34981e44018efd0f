use borrow.Author.Tests.{eq-eqb, ne_eqb}
use Rattle.checkmeta.proofs.refs.allows.Goals as goal

pub returns-then-kind-eq1 : goal.returns-then-kind-eq1
returns-then-kind-eq1 c = rw (c.in-Member.is, eq-eqb _ 1 c.if-kind-eq1.true)

pub returns-then-kind-eq3 : goal.returns-then-kind-eq3
returns-then-kind-eq3 c = rw (c.in-Scope.is, eq-eqb _ 3 c.if-kind-eq3.true)

pub returns-else-kind-eq1 : goal.returns-else-kind-eq1
returns-else-kind-eq1 c = rw (c.in-Member.is, ne_eqb _ 1 c.if-kind-eq1.false)

pub returns-else-kind-eq3 : goal.returns-else-kind-eq3
returns-else-kind-eq3 c = rw (c.in-Scope.is, ne_eqb _ 3 c.if-kind-eq3.false)

pub returns-in-Source : goal.returns-in-Source
returns-in-Source c = rw c.in-Source.is
