use Rattle.checkcells.specs.Runs.{widths_in}
use Rattle.checkcells.proofs.Laws.{Telling}
use Rattle.checkcells.proofs.cells.cells_good.Given as goal

abbrev pub invariant-loop-i : goal.invariant-loop-i
invariant-loop-i l = Telling (widths_in l.n l.cells) l.bits l.runs l.metas l.cells l.names l.n l.i l.s l.r l.b l.d l.o
