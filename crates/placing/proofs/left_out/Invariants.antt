use Rattle.placing.specs.Marks.{placed_in}
use Rattle.graph.specs.Graph.{some}
use mathlib.Core.Path.{◌≡◌}
use mathlib.Core.Bool.{not}
use Prim.Native.Nat.{◌≤◌}
use Rattle.placing.proofs.left_out.Given as goal

abbrev pub invariant-loop-k : goal.invariant-loop-k
invariant-loop-k l = (l.k ≤ l.n) × (some (λ i. not (placed_in l.marks i)) l.k ≡ some (λ i. not (placed_in l.marks i)) l.n)
