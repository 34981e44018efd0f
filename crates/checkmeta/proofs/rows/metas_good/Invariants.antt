use Rattle.checkmeta.proofs.Laws.{Walking}
use Rattle.checkmeta.proofs.rows.metas_good.Given as goal

abbrev pub invariant-loop-i : goal.invariant-loop-i
invariant-loop-i l = Walking l.metas l.n l.members l.bits l.i l.s l.m l.b
