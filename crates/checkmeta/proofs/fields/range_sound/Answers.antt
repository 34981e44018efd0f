use borrow.Author.Tests.{eq-eqb, ne_eqb}
use Rattle.checkmeta.proofs.fields.range_sound.Goals as goal

pub returns-then-bad_range : goal.returns-then-bad_range
returns-then-bad_range c = rw (eq-eqb _ 2 c.if-kind-eq2.true, ← c.bad_range.ensures, c.if-bad_range.true)

pub returns-then-kind-eq2 : goal.returns-then-kind-eq2
returns-then-kind-eq2 c = rw (eq-eqb _ 2 c.if-kind-eq2.true, ← c.bad_range.ensures, c.if-bad_range.false)

pub returns : goal.returns
returns c = rw (ne_eqb _ 2 c.if-kind-eq2.false) c.no_range.ensures
