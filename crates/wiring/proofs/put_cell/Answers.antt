use Rattle.wiring.proofs.CellTight.{put_nine}
use Rattle.wiring.proofs.put_cell.Goals as goal

pub returns : goal.returns
returns c = let s = c in let a = s.args in put_nine a.cells.now a.at a.w.kind a.w.width _ _ a.meta 0 a.n.a a.n.b a.n.c c.name_from.ensures c.name_size.ensures c.put_three.ensures c.put_three-2.ensures c.put_three-3.ensures
