use native.Mathlib.Omega.{arith}
use lib.ListN.{length-set}
use Rattle.settling.proofs.settle_cell.Goals as goal

pub bounds-row-5 : goal.bounds-row-5
bounds-row-5 c = simp length-set (omega arith)

pub returns : goal.returns
returns c = (
  rw (c.word-2.ensures, c.word.ensures),
  c.lay_string-end.ensures.1,
  rw (c.lay_string-end.ensures.0, c.wide.ensures.0, c.wide-2.ensures.0, c.wide-3.ensures.0),
)
