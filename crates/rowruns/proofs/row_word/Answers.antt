use borrow.Author.Tests.{eq-eqb, ne_eqb}
use Rattle.rowruns.proofs.row_word.Goals as goal

pub returns-then-head-eq0 : goal.returns-then-head-eq0
returns-then-head-eq0 c = rw (eq-eqb _ 0 c.if-head-eq0.true)

pub returns : goal.returns
returns c = rw (ne_eqb _ 0 c.if-head-eq0.false) c.word_at.ensures
