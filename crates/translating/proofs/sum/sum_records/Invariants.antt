use mathlib.Core.Path.{◌≡◌}
use Prim.Native.Nat.{◌+◌, ◌-◌, ◌*◌, ◌≤◌}
use lib.ListN.{drop}
use Rattle.cells.specs.Held.{held_runs}
use Rattle.assigning.specs.Rows.{rows_total}
use Rattle.translating.specs.InTables.{row_sum}
use Rattle.translating.proofs.sum.sum_records.Given as goal

abbrev pub invariant-loop-i : goal.invariant-loop-i
invariant-loop-i l = (l.i ≤ l.n) × (l.sum + rows_total (row_sum (held_runs l.runs l.trits)) (l.n - l.i) (drop (l.i * 9) l.cells) ≡ 3 + rows_total (row_sum (held_runs l.runs l.trits)) l.n l.cells) × (l.sum ≤ 3 + l.i * 17179869188)
