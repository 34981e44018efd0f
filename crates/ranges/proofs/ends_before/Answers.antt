use borrow.Author.Tests.{lt-ltb, le-ltb, eq-eqb, ne_eqb}
use Rattle.ranges.proofs.ends_before.Goals as goal

pub returns-then-last-first : goal.returns-then-last-first
returns-then-last-first c = rw (lt-ltb _ _ c.if-last-first.true)

pub returns-then-last-first-2 : goal.returns-then-last-first-2
returns-then-last-first-2 c = rw (le-ltb _ _ c.if-last-first.false, eq-eqb _ _ c.if-last-first-2.true)

pub returns : goal.returns
returns c = rw (le-ltb _ _ c.if-last-first.false, ne_eqb _ _ c.if-last-first-2.false)
