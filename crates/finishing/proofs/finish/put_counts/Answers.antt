use lib.ListN.{length-set}
use native.Mathlib.Omega.{arith}
use Rattle.finishing.proofs.finish.put_counts.Goals as goal

pub bounds-rows-1 : goal.bounds-rows-1
bounds-rows-1 c = simp length-set (omega arith)

pub returns : goal.returns
returns c = rw (c.word-3.ensures, c.word-2.ensures, c.word.ensures)
