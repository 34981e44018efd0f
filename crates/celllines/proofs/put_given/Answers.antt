use Rattle.writing.proofs.Stands.{then, same_text, nothing}
use Rattle.celllines.specs.CellLines.{operand_text}
use Rattle.celllines.proofs.put_given.Goals as goal

pub returns-then-given : goal.returns-then-given
unfolding operand_text
returns-then-given c = same_text (then c.put-m.ensures c.put_operand.ensures) (λ k. rw c.if-given.true)

pub returns : goal.returns
unfolding operand_text
returns c = same_text (nothing _ _) (λ k. rw c.if-given.false)
