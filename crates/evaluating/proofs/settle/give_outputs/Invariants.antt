use Rattle.evaluating.proofs.Going.{Gave}
use Rattle.cells.specs.Held.{held_runs, held_bits}
use Rattle.evaluating.proofs.settle.give_outputs.Given as goal

abbrev pub invariant-loop-i : goal.invariant-loop-i
invariant-loop-i l = Gave l.cells (held_runs l.runs l.trits) (held_bits l.starts l.values) l.n l.initial.answer l.i l.at l.answer
