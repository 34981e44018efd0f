use Prim.Native.Nat.{◌≤◌}
use Rattle.loadlist.proofs.Walk.{Passed}
use Rattle.listcheck.proofs.check.Given as goal

abbrev pub invariant-loop-k : goal.invariant-loop-k
invariant-loop-k l = (l.k ≤ 8192) × (l.inputs ≤ l.k) × (l.outputs ≤ l.k) × Passed l.list l.n l.k l.inputs l.outputs
