use Rattle.ground.specs.Lists.{up_from}
use Rattle.assigning.specs.Rows.{rows_total, input_in}
use Rattle.assigning.proofs.Laws.{Assigned}
use Rattle.translating.proofs.records.input_slots.Given as goal

abbrev pub invariant-loop-i : goal.invariant-loop-i
invariant-loop-i l = Assigned l.cells l.n (up_from 3 (rows_total input_in l.n l.cells)) l.initial.slots l.i l.start l.at l.slots
