use Rattle.ground.proofs.Tests.{tests}
use borrow.Author.Rules.{rules}
use Rattle.strings.proofs.taken.Goals as goal

pub returns-then-escapes : goal.returns-then-escapes
returns-then-escapes c = (search (tests, ← c.escapes.ensures, c.if-escapes.true), search rules)

pub returns-then-b-eq92 : goal.returns-then-b-eq92
returns-then-b-eq92 c = (search (tests, ← c.escapes.ensures, c.if-escapes.false), search rules)

pub returns-then-is_raw : goal.returns-then-is_raw
returns-then-is_raw c = (search (tests, ← c.is_raw.ensures, c.if-is_raw.true), search rules)

pub returns : goal.returns
returns c = (search (tests, ← c.is_raw.ensures, c.if-is_raw.false), search rules)
