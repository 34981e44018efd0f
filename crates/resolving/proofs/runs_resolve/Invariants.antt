use Rattle.resolving.specs.Resolving.{rows_resolve}
use mathlib.Core.Path.{◌≡◌}
use Prim.Native.Nat.{◌-◌, ◌*◌, ◌≤◌}
use lib.ListN.{drop}
use Rattle.resolving.proofs.runs_resolve.Given as goal

abbrev pub invariant-loop-i : goal.invariant-loop-i
invariant-loop-i l = (l.i ≤ l.n) × (rows_resolve l.map l.cells (l.n - l.i) (drop (l.i * 3) l.runs) ≡ rows_resolve l.map l.cells l.n l.runs)
