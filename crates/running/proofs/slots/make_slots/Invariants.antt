use Prim.Native.Nat.{◌≤◌}
use Rattle.running.proofs.Laws.{Made}
use Rattle.running.proofs.slots.make_slots.Given as goal

abbrev pub invariant-loop-k : goal.invariant-loop-k
invariant-loop-k l = (l.k ≤ l.n) × Made l.list l.ins l.n l.initial.work l.k l.work
