use Rattle.evaluating.proofs.Going.{Worked}
use Rattle.cells.specs.Held.{held_runs}
use Rattle.evaluating.proofs.settle.work_out.Given as goal

abbrev pub invariant-loop-i : goal.invariant-loop-i
invariant-loop-i l = Worked l.cells (held_runs l.runs l.trits) l.starts l.order l.count l.initial.values l.i l.values
