use borrow.Author.Tests.{lt-leb, le-leb, eq-eqb, ne_eqb}
use Rattle.checkcells.proofs.runs.run_good.Goals as goal

pub returns-then-width-lt1 : goal.returns-then-width-lt1
returns-then-width-lt1 c = rw (← c.word_of-width.ensures.0, lt-leb 1 _ c.if-width-lt1.true)

pub returns-then-source-eq0 : goal.returns-then-source-eq0
returns-then-source-eq0 c = rw (← c.word_of-width.ensures.0, ← c.word_of-start.ensures.0, ← c.word_of-source.ensures.0, le-leb 1 _ c.if-width-lt1.false, eq-eqb _ 0 c.if-source-eq0.true) c.const_good.ensures

pub returns : goal.returns
returns c = rw (← c.word_of-width.ensures.0, ← c.word_of-start.ensures.0, ← c.word_of-source.ensures.0, le-leb 1 _ c.if-width-lt1.false, ne_eqb _ 0 c.if-source-eq0.false) c.resolves_in.ensures
