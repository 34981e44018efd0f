use Rattle.resolving.specs.Resolving.{lost_of}
use mathlib.Core.Path.{◌≡◌}
use Prim.Native.Nat.{◌-◌, ◌≤◌}
use lib.ListN.{drop}
use Rattle.resolving.proofs.first_lost.Given as goal

abbrev pub invariant-loop-i : goal.invariant-loop-i
invariant-loop-i l = (l.i ≤ l.n) × (lost_of l.text l.map l.cells (l.n - l.i) (drop l.i l.places) ≡ lost_of l.text l.map l.cells l.n l.places)
