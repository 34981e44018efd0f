use borrow.Author.Tests.{eq-eqb, ne_eqb}
use Rattle.writing.proofs.Stands.{same_text}
use Rattle.operands.proofs.put_run.Goals as goal

pub returns-then-cell-eq0 : goal.returns-then-cell-eq0
returns-then-cell-eq0 c = same_text c.put_trits.ensures (λ k. rw (eq-eqb _ 0 c.if-cell-eq0.true))

pub returns : goal.returns
returns c = same_text c.put_piece.ensures (λ k. rw (ne_eqb _ 0 c.if-cell-eq0.false))
