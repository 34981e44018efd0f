use mathlib.Core.Path.{◌≡◌}
use Prim.Native.Nat.{min}
use lib.ListN.{length, drop}
use Rattle.trit.specs.Wide.{ult_from, ult_bit}
use Rattle.cellvalues.proofs.compare.ult_bit.Given as goal

abbrev pub invariant-loop-i : goal.invariant-loop-i
invariant-loop-i l = (l.n ≡ min (length l.a) (length l.b)) × (ult_from (drop l.i l.a) (drop l.i l.b) l.below ≡ ult_bit l.a l.b)
