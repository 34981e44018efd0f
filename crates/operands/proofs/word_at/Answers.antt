use mathlib.Core.Path.{sym}
use Rattle.ground.proofs.Rest.{past_zero}
use Rattle.operands.proofs.word_at.Goals as goal

pub returns-then-k-words : goal.returns-then-k-words
returns-then-k-words c = rw c.wide-k.ensures.0

pub returns : goal.returns
returns c = let a = c.args in let e = c.wide-k.ensures.0 in sym (past_zero a.words.now a.i (rw e at c.if-k-words.false))
