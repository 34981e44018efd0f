use Rattle.writing.proofs.Digits.{split_law}
use borrow.Author.Rules.{rules}
use Rattle.decimals.proofs.split_at.Goals as goal

pub returns : goal.returns
returns c = let e = c.power.ensures.0 in split_law _ _ _ _ (search rules) (rw e at c.by.ensures.0) (rw e at c.by.ensures.1)
