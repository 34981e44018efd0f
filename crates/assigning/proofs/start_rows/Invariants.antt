use Rattle.assigning.proofs.Laws.{Started}
use Prim.Native.Nat.{◌-◌}
use Rattle.assigning.proofs.start_rows.Given as goal

abbrev pub invariant-loop-i : goal.invariant-loop-i
invariant-loop-i l = Started l.rows l.n l.initial.starts l.i l.start l.starts
