use mathlib.Core.Path.{◌≡◌}
use Prim.Native.Nat.{◌-◌, min}
use lib.ListN.{length, replicate}
use Rattle.cells.proofs.Filling.{Leaves}
use Rattle.cellvalues.proofs.lent.put_x.Given as goal

abbrev pub invariant-loop-i : goal.invariant-loop-i
invariant-loop-i l = (l.n ≡ min l.size (length l.initial.out)) × Leaves l.initial.out 0 (replicate l.size 2) l.out l.i (replicate (l.size - l.i) 2)
