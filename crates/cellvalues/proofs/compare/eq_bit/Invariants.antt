use mathlib.Core.Path.{◌≡◌}
use Prim.Native.Nat.{min}
use lib.ListN.{length, drop}
use Rattle.trit.specs.Wide.{eq_bit}
use Rattle.cells.proofs.Places as places
use Rattle.cellvalues.proofs.compare.eq_bit.Given as goal

abbrev pub invariant-loop-i : goal.invariant-loop-i
invariant-loop-i l = (l.n ≡ min (length l.a) (length l.b)) × (places.eq_on l.told (drop l.i l.a) (drop l.i l.b) ≡ eq_bit l.a l.b)
