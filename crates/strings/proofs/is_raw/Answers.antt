use Rattle.ground.proofs.Tests.{tests}
use Rattle.strings.proofs.is_raw.Goals as goal

pub returns-then-between : goal.returns-then-between
returns-then-between c = search (tests, ← c.class_at-c.ensures, ← c.between.ensures, c.if-between.true)

pub returns-then-c-eq16 : goal.returns-then-c-eq16
returns-then-c-eq16 c = search (tests, ← c.class_at-c.ensures, ← c.between.ensures, c.if-between.false)

pub returns : goal.returns
returns c = search (tests, ← c.class_at-c.ensures, ← c.between.ensures, c.if-between.false)
