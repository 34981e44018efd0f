use Rattle.writing.proofs.Stands.{then, same_text, nothing}
use Rattle.celllines.specs.CellLines.{name_text}
use Rattle.celllines.proofs.put_name.Goals as goal

pub returns-then-given : goal.returns-then-given
unfolding name_text
returns-then-given c = same_text (then c.put-m.ensures c.put_quoted.ensures) (λ k. rw c.if-given.true)

pub returns : goal.returns
unfolding name_text
returns c = same_text (nothing _ _) (λ k. rw c.if-given.false)
