use Rattle.settling.proofs.CellRows.{Lefts}
use lib.ListN.{length}
use mathlib.Core.Path.{◌≡◌}
use Prim.Native.Nat.{◌-◌, ◌≤◌}
use Rattle.settling.proofs.settle_cells.Given as goal

abbrev pub invariant-loop-i : goal.invariant-loop-i
invariant-loop-i l = (l.i ≤ l.n) × (length l.cells ≡ length l.initial.cells) × (length l.strings ≡ length l.initial.strings) × Lefts l.text l.n l.first l.initial.cells l.initial.strings l.i l.cells l.strings l.so
