use borrow.Author.Tests.{eq-eqb, ne_eqb}
use Rattle.checkcells.proofs.runs.joins_next.Goals as goal

pub returns-then-row-eq0 : goal.returns-then-row-eq0
returns-then-row-eq0 c = rw (eq-eqb _ 0 c.if-row-eq0.true)

pub returns-then-row-eq0-2 : goal.returns-then-row-eq0-2
returns-then-row-eq0-2 c = rw (ne_eqb _ 0 c.if-row-eq0.false, eq-eqb _ 0 c.if-row-eq0-2.true)

pub returns-then-row : goal.returns-then-row
returns-then-row c = rw (ne_eqb _ 0 c.if-row-eq0.false, ne_eqb _ 0 c.if-row-eq0-2.false, eq-eqb _ _ c.if-row.true, c.word_of-start.ensures.0, c.word_of.ensures.0, c.word_of-2.ensures.0)

pub returns : goal.returns
returns c = rw (ne_eqb _ 0 c.if-row-eq0.false, ne_eqb _ 0 c.if-row-eq0-2.false, ne_eqb _ _ c.if-row.false)
