use borrow.Author.Tests.{eq-eqb, ne_eqb}
use Rattle.checkmeta.proofs.refs.source_sound.Goals as goal

pub returns-then-source-eq0 : goal.returns-then-source-eq0
returns-then-source-eq0 c = rw (eq-eqb _ 0 c.if-source-eq0.true)

pub returns-then-kind-eq3 : goal.returns-then-kind-eq3
returns-then-kind-eq3 c = rw (ne_eqb _ 0 c.if-source-eq0.false, eq-eqb _ 3 c.if-kind-eq3.true) c.refers_to.ensures

pub returns-then-kind-eq4 : goal.returns-then-kind-eq4
returns-then-kind-eq4 c = rw (ne_eqb _ 0 c.if-source-eq0.false, ne_eqb _ 3 c.if-kind-eq3.false, eq-eqb _ 4 c.if-kind-eq4.true) c.refers_to-then-kind-eq4.ensures

pub returns : goal.returns
returns c = rw (ne_eqb _ 0 c.if-source-eq0.false, ne_eqb _ 3 c.if-kind-eq3.false, ne_eqb _ 4 c.if-kind-eq4.false)
