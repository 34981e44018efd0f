use borrow.Author.Tests.{eq-eqb, ne_eqb}
use Rattle.writing.proofs.Stands.{same_text}
use Rattle.metalines.proofs.put_value.Goals as goal

pub returns-then-kind-eq6 : goal.returns-then-kind-eq6
returns-then-kind-eq6 c = same_text c.put_trits.ensures (λ k. rw (eq-eqb _ 6 c.if-kind-eq6.true))

pub returns-then-kind-eq7 : goal.returns-then-kind-eq7
returns-then-kind-eq7 c = same_text c.put_hash.ensures (λ k. rw (ne_eqb _ 6 c.if-kind-eq6.false, eq-eqb _ 7 c.if-kind-eq7.true))

pub returns : goal.returns
returns c = same_text c.put_quoted.ensures (λ k. rw (ne_eqb _ 6 c.if-kind-eq6.false, ne_eqb _ 7 c.if-kind-eq7.false))
