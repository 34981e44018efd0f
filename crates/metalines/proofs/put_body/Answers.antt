use borrow.Author.Tests.{eq-eqb, ne_eqb}
use Rattle.writing.proofs.Stands.{same_text}
use Rattle.metalines.proofs.put_body.Goals as goal

pub returns-then-kind-eq1 : goal.returns-then-kind-eq1
returns-then-kind-eq1 c = same_text c.put_set.ensures (λ k. rw (eq-eqb _ 1 c.if-kind-eq1.true))

pub returns-then-kind-eq2 : goal.returns-then-kind-eq2
returns-then-kind-eq2 c = same_text c.put_source.ensures (λ k. rw (ne_eqb _ 1 c.if-kind-eq1.false, eq-eqb _ 2 c.if-kind-eq2.true))

pub returns-then-kind-eq3 : goal.returns-then-kind-eq3
returns-then-kind-eq3 c = same_text c.put_scope.ensures (λ k. rw (ne_eqb _ 1 c.if-kind-eq1.false, ne_eqb _ 2 c.if-kind-eq2.false, eq-eqb _ 3 c.if-kind-eq3.true))

pub returns-then-kind-eq4 : goal.returns-then-kind-eq4
returns-then-kind-eq4 c = same_text c.put_indexed.ensures (λ k. rw (ne_eqb _ 1 c.if-kind-eq1.false, ne_eqb _ 2 c.if-kind-eq2.false, ne_eqb _ 3 c.if-kind-eq3.false, eq-eqb _ 4 c.if-kind-eq4.true))

pub returns-then-kind-eq5 : goal.returns-then-kind-eq5
returns-then-kind-eq5 c = same_text c.put_ident.ensures (λ k. rw (ne_eqb _ 1 c.if-kind-eq1.false, ne_eqb _ 2 c.if-kind-eq2.false, ne_eqb _ 3 c.if-kind-eq3.false, ne_eqb _ 4 c.if-kind-eq4.false, eq-eqb _ 5 c.if-kind-eq5.true))

pub returns : goal.returns
returns c = same_text c.put_attr.ensures (λ k. rw (ne_eqb _ 1 c.if-kind-eq1.false, ne_eqb _ 2 c.if-kind-eq2.false, ne_eqb _ 3 c.if-kind-eq3.false, ne_eqb _ 4 c.if-kind-eq4.false, ne_eqb _ 5 c.if-kind-eq5.false))
