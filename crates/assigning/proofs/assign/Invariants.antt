use Rattle.assigning.proofs.Laws.{Assigned}
use Prim.Native.Nat.{◌-◌}
use Rattle.assigning.proofs.assign.Given as goal

abbrev pub invariant-loop-i : goal.invariant-loop-i
invariant-loop-i l = Assigned l.rows l.n l.ins l.initial.values l.i l.start l.at l.values
