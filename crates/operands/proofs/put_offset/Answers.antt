use Rattle.writing.proofs.Stands.{then, same_text, nothing}
use Rattle.operands.specs.Operands.{offset}
use Rattle.operands.proofs.put_offset.Goals as goal

pub returns-then-whole : goal.returns-then-whole
unfolding offset
returns-then-whole c = same_text (nothing _ _) (λ k. rw c.if-whole.true)

pub returns : goal.returns
unfolding offset
returns c = same_text (then c.put-m.ensures c.put_number.ensures) (λ k. rw c.if-whole.false)
