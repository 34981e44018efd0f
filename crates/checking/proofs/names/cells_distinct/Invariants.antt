use mathlib.Core.Bool.{true}
use Prim.Native.Nat.{◌-◌, ◌*◌, ◌≤◌}
use mathlib.Core.Path.{◌≡◌}
use lib.ListN.{drop}
use Rattle.netlist.specs.Rules.{distinct}
use Rattle.marking.specs.Marks.{Marked}
use Rattle.checking.specs.Names.{cell_names_in}
use Rattle.checking.proofs.names.cells_distinct.Given as goal

abbrev pub invariant-loop-i : goal.invariant-loop-i
invariant-loop-i l = (l.i ≤ l.n) × Marked l.kind l.seen (cell_names_in l.strings l.kind (l.n - l.i) (drop (l.i * 9) l.cells)) × (distinct (cell_names_in l.strings l.kind (l.n - l.i) (drop (l.i * 9) l.cells)) ≡ true)
