use Prim.Native.Nat.{◌-◌, ◌*◌, ◌≤◌}
use mathlib.Core.Path.{◌≡◌}
use Rattle.asking.specs.Namesakes.{Passes}
use Rattle.taken.proofs.next_of_kind.Given as goal

abbrev pub invariant-loop-i : goal.invariant-loop-i
invariant-loop-i l = (l.row ≤ l.i) × (l.i ≤ l.n) × (l.at ≡ l.i * 9) × Passes l.kind l.n l.row l.i l.cells

abbrev pub decreases-loop-i : goal.decreases-loop-i
decreases-loop-i l = l.n - l.i
