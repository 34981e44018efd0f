use native.Mathlib.Omega.{arith}
use Rattle.writing.proofs.Stands.{then, same_text}
use Rattle.celllines.proofs.put_further.Goals as goal

pub put_given-m-requires : goal.put_given-m-requires
put_given-m-requires c = (c.requires.1, c.requires.2, omega arith)

pub put_given-requires : goal.put_given-requires
put_given-requires c = (c.requires.1, c.requires.2, omega arith)

pub returns : goal.returns
returns c = same_text (then c.put_given-m.ensures c.put_given.ensures)
    (λ k. rw (c.at_least.ensures, c.at_least-2.ensures, c.wide.ensures.0, c.wide-2.ensures.0, c.wide-3.ensures.0))
