use Rattle.placing.specs.Marks.{Going, left}
use Rattle.placing.proofs.turns.place_rows.Given as goal

abbrev pub invariant-loop-low : goal.invariant-loop-low
invariant-loop-low l = Going l.cells l.runs l.n l.rows l.marks l.low l.count

abbrev pub decreases-loop-low : goal.decreases-loop-low
decreases-loop-low l = left l.n l.low l.count
