use Rattle.translating.proofs.Listing.{Left}
use Prim.Native.Nat.{◌+◌, ◌-◌, ◌*◌, ◌≤◌}
use lib.ListN.{drop}
use Rattle.cells.specs.Held.{held_runs, held_bits}
use Rattle.evaluating.specs.InTables.{outputs_in}
use Rattle.translating.specs.Translation.{output_records}
use Rattle.translating.proofs.records.output_rows.Given as goal

abbrev pub invariant-loop-i : goal.invariant-loop-i
invariant-loop-i l = (l.i ≤ l.n) × Left l.initial.list l.k (output_records (outputs_in l.n l.cells (held_runs l.runs l.trits) (held_bits l.starts l.slots)) 0) l.list (l.k + l.j) (output_records (outputs_in (l.n - l.i) (drop (l.i * 9) l.cells) (held_runs l.runs l.trits) (held_bits l.starts l.slots)) l.j)
