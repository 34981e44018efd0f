use Prim.Native.Nat.{◌-◌, ◌*◌, ◌≤◌}
use mathlib.Core.Path.{◌≡◌}
use lib.ListN.{drop}
use Rattle.asking.specs.Namesakes.{some_row, cell_namesake}
use Rattle.taken.proofs.cell_found.Given as goal

abbrev pub invariant-loop-i : goal.invariant-loop-i
invariant-loop-i l = (l.i ≤ l.n) × (some_row 9 (cell_namesake l.text l.kind l.from l.size) (l.n - l.i) (drop (l.i * 9) l.cells) ≡ some_row 9 (cell_namesake l.text l.kind l.from l.size) l.n l.cells)

abbrev pub decreases-loop-i : goal.decreases-loop-i
decreases-loop-i l = l.n - l.i
