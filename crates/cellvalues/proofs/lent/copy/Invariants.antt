use mathlib.Core.Path.{◌≡◌}
use Prim.Native.Nat.{min}
use lib.ListN.{length, drop}
use Rattle.cells.proofs.Filling.{Leaves}
use Rattle.cellvalues.proofs.lent.copy.Given as goal

abbrev pub invariant-loop-i : goal.invariant-loop-i
invariant-loop-i l = (l.n ≡ min (length l.a) (length l.initial.out)) × Leaves l.initial.out 0 l.a l.out l.i (drop l.i l.a)
