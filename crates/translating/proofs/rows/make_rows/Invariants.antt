use Prim.Native.Nat.{◌≤◌}
use Rattle.cells.specs.Held.{held_runs}
use Rattle.translating.proofs.Rowing.{Rowed}
use Rattle.translating.proofs.rows.make_rows.Given as goal

abbrev pub invariant-loop-i : goal.invariant-loop-i
invariant-loop-i l = (l.i ≤ l.count) × Rowed l.cells (held_runs l.runs l.trits) l.starts l.order l.count l.from l.initial.list l.initial.slots l.i l.k l.list l.slots
