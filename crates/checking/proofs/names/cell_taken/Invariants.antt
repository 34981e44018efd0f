use Prim.Native.Nat.{◌-◌, ◌*◌, ◌≤◌}
use mathlib.Core.Path.{◌≡◌}
use lib.ListN.{drop}
use Rattle.netlist.specs.Rules.{taken}
use Rattle.checking.specs.Names.{cell_names_in}
use Rattle.checking.proofs.names.cell_taken.Given as goal

abbrev pub invariant-loop-i : goal.invariant-loop-i
invariant-loop-i l = (l.i ≤ l.n) × (taken l.name (cell_names_in l.strings l.kind (l.n - l.i) (drop (l.i * 9) l.cells)) ≡ taken l.name (cell_names_in l.strings l.kind (l.n - l.from) (drop (l.from * 9) l.cells)))
