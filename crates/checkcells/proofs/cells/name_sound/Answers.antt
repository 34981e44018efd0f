use borrow.Author.Tests.{lt-leb, le-leb}
use Rattle.checkcells.proofs.cells.name_sound.Goals as goal

pub returns-then-size-lt1 : goal.returns-then-size-lt1
returns-then-size-lt1 c = rw (← c.has_name.ensures, c.if-has_name.true, lt-leb 1 _ c.if-size-lt1.true)

pub returns-then-has_name : goal.returns-then-has_name
returns-then-has_name c = rw (← c.has_name.ensures, c.if-has_name.true, le-leb 1 _ c.if-size-lt1.false)

pub returns : goal.returns
returns c = rw (← c.has_name.ensures, c.if-has_name.false)
