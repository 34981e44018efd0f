use Rattle.ground.proofs.Tests.{tests}
use Rattle.strings.proofs.is_hex.Goals as goal

pub returns-then-between : goal.returns-then-between
returns-then-between c = search (tests, ← c.class_at-c.ensures, ← c.between.ensures, c.if-between.true)

pub returns : goal.returns
returns c = search (tests, ← c.class_at-c.ensures, ← c.between.ensures, c.if-between.false)
