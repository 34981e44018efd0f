use mathlib.Core.Path.{◌≡◌}
use Prim.Native.Nat.{min}
use lib.ListN.{length, drop}
use Rattle.trit.specs.Wide.{pairs}
use Rattle.cellvalues.specs.Picked.{gate_of}
use Rattle.cells.proofs.Filling.{Leaves}
use Rattle.cellvalues.proofs.gates.put_gate.Given as goal

abbrev pub invariant-loop-i : goal.invariant-loop-i
invariant-loop-i l = (l.n ≡ min (min (length l.a) (length l.b)) (length l.initial.out)) × Leaves l.initial.out 0 (pairs (gate_of l.kind) l.a l.b) l.out l.i (pairs (gate_of l.kind) (drop l.i l.a) (drop l.i l.b))
