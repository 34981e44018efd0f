use Rattle.writing.proofs.Stands.{then, same_text}
use Rattle.celllines.proofs.put_operands.Goals as goal

pub returns : goal.returns
returns c = same_text (then c.put_given-m.ensures c.put_further.ensures) (λ k. rw (c.at_least.ensures, c.wide.ensures.0))
