use Rattle.valuing.proofs.Laws.{valued}
use Rattle.valuing.proofs.put_row.Goals as goal

pub returns : goal.returns
returns c = let a = c.args in valued a.cells.now a.starts.now a.row a.values.now _ a.a.now a.b.now a.c.now _ _ c.word_of-start.ensures.0 c.word_in.ensures.0 c.put_at.ensures
