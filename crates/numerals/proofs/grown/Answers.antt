use Rattle.ground.proofs.Tests.{tests}
use borrow.Author.Rules.{rules}
use Rattle.numerals.proofs.grown.Goals as goal

pub returns-then-limit-n : goal.returns-then-limit-n
returns-then-limit-n c = (search tests, search rules)

pub returns : goal.returns
returns c = (search tests, search rules)
