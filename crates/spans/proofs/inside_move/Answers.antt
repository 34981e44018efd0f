use Rattle.ground.proofs.Tests.{tests}
use Rattle.spans.proofs.inside_move.Goals as goal

pub returns-then-c-eq2 : goal.returns-then-c-eq2
returns-then-c-eq2 c = search (tests, c.if-noted.true)

pub returns-then-noted : goal.returns-then-noted
returns-then-noted c = search (tests, c.if-noted.true)

pub returns-then-between : goal.returns-then-between
returns-then-between c = search (tests, c.if-noted.false, ← c.between.ensures, c.if-between.true)

pub returns-then-c-eq14 : goal.returns-then-c-eq14
returns-then-c-eq14 c = search (tests, c.if-noted.false, ← c.between.ensures, c.if-between.false)

pub returns : goal.returns
returns c = search (tests, c.if-noted.false, ← c.between.ensures, c.if-between.false)
