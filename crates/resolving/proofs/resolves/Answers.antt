use borrow.Author.Tests.{lt-leb, le-leb}
use Rattle.resolving.proofs.resolves.Goals as goal

pub returns-then-row-lt1 : goal.returns-then-row-lt1
returns-then-row-lt1 c = rw (← c.word_at-row.ensures, lt-leb 1 _ c.if-row-lt1.true)

pub returns : goal.returns
returns c = let row = c.word_at-row.ensures in rw (← row, le-leb 1 c.word_at-row.result c.if-row-lt1.false, ← c.word_at.ensures)
