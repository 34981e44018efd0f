use mathlib.Core.Path.{◌≡◌}
use Prim.Native.Nat.{min}
use lib.ListN.{length, drop}
use Rattle.trit.specs.Wide.{not_bits}
use Rattle.cells.proofs.Filling.{Leaves}
use Rattle.cellvalues.proofs.gates.put_not.Given as goal

abbrev pub invariant-loop-i : goal.invariant-loop-i
invariant-loop-i l = (l.n ≡ min (length l.a) (length l.initial.out)) × Leaves l.initial.out 0 (not_bits l.a) l.out l.i (not_bits (drop l.i l.a))
