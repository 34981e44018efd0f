use borrow.Author.Tests.{le-leb, lt-leb}
use Rattle.asking.proofs.refs.refers_to.Goals as goal

pub returns-then-after-lt1 : goal.returns-then-after-lt1
returns-then-after-lt1 c = rw (lt-leb _ _ c.if-after-lt1.true)

pub returns-then-n-after : goal.returns-then-n-after
returns-then-n-after c = rw (le-leb _ _ c.if-after-lt1.false, lt-leb _ _ c.if-n-after.true)

pub returns : goal.returns
returns c = rw (le-leb _ _ c.if-after-lt1.false, le-leb _ _ c.if-n-after.false, ← c.word_at.ensures) c.allows.ensures
