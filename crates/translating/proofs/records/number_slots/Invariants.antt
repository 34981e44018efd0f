use Prim.Native.Nat.{◌+◌, ◌-◌, ◌≤◌}
use Rattle.ground.specs.Lists.{up_from}
use Rattle.cells.proofs.Filling.{Leaves}
use Rattle.translating.proofs.records.number_slots.Given as goal

abbrev pub invariant-loop-i : goal.invariant-loop-i
invariant-loop-i l = (l.i ≤ l.size) × Leaves l.initial.slots l.place (up_from l.first l.size) l.slots (l.place + l.i) (up_from (l.first + l.i) (l.size - l.i))
