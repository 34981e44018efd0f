use Rattle.placing.specs.Marks.{Begun}
use Prim.Native.Nat.{◌≤◌}
use Rattle.placing.proofs.mark_apart.Given as goal

abbrev pub invariant-loop-i : goal.invariant-loop-i
invariant-loop-i l = (l.i ≤ l.n) × Begun l.cells l.i l.marks
