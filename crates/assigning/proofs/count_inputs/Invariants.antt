use Rattle.assigning.proofs.Laws.{Counted}
use Prim.Native.Nat.{◌-◌}
use Rattle.assigning.proofs.count_inputs.Given as goal

abbrev pub invariant-loop-i : goal.invariant-loop-i
invariant-loop-i l = Counted l.rows l.n l.i l.count
