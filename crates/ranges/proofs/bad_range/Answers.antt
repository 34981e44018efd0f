use borrow.Author.Tests.{le-leb, lt-leb}
use Rattle.ranges.proofs.bad_range.Goals as goal

pub returns-then-first-ge2147483648 : goal.returns-then-first-ge2147483648
returns-then-first-ge2147483648 c = rw (le-leb _ _ c.if-first-ge2147483648.true)

pub returns-then-first-ge2147483648-2 : goal.returns-then-first-ge2147483648-2
returns-then-first-ge2147483648-2 c = rw (lt-leb _ _ c.if-first-ge2147483648.false, le-leb _ _ c.if-first-ge2147483648-2.true)

pub returns-then-last-ge2147483648 : goal.returns-then-last-ge2147483648
returns-then-last-ge2147483648 c = rw (lt-leb _ _ c.if-first-ge2147483648.false, lt-leb _ _ c.if-first-ge2147483648-2.false, le-leb _ _ c.if-last-ge2147483648.true)

pub returns-then-last-ge2147483648-2 : goal.returns-then-last-ge2147483648-2
returns-then-last-ge2147483648-2 c = rw (lt-leb _ _ c.if-first-ge2147483648.false, lt-leb _ _ c.if-first-ge2147483648-2.false, lt-leb _ _ c.if-last-ge2147483648.false, le-leb _ _ c.if-last-ge2147483648-2.true)

pub returns : goal.returns
returns c = rw (lt-leb _ _ c.if-first-ge2147483648.false, lt-leb _ _ c.if-first-ge2147483648-2.false, lt-leb _ _ c.if-last-ge2147483648.false, lt-leb _ _ c.if-last-ge2147483648-2.false) c.ends_before.ensures
