use Rattle.checkcells.proofs.Laws.{resolves_at, resolves_past}
use Rattle.checkcells.proofs.runs.resolves_in.Goals as goal

pub returns-then-row-n : goal.returns-then-row-n
returns-then-row-n c = let a = c.args in rw c.word_of.ensures.0 (resolves_at a.n a.row a.offset a.width a.cells.now c.if-row-n.true)

pub returns : goal.returns
returns c = let a = c.args in resolves_past a.n a.row a.offset a.width a.cells.now c.if-row-n.false
