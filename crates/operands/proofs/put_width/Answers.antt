use Rattle.writing.proofs.Stands.{then, same_text, nothing}
use borrow.Author.Tests.{eq-eqb, ne_eqb}
use Rattle.operands.specs.Operands.{width}
use Rattle.operands.proofs.put_width.Goals as goal

pub returns-then-w-eq1 : goal.returns-then-w-eq1
unfolding width
returns-then-w-eq1 c = same_text (nothing _ _) (λ k. rw (eq-eqb _ 1 c.if-w-eq1.true))

pub returns : goal.returns
unfolding width
returns c = same_text (then c.put-m.ensures c.put_number.ensures) (λ k. rw (ne_eqb _ 1 c.if-w-eq1.false))
