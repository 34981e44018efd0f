use mathlib.Core.Path.{◌≡◌}
use Prim.Native.Nat.{min}
use lib.ListN.{length, drop}
use Rattle.trit.specs.Wide.{adc_bits}
use Rattle.cells.proofs.Filling.{Leaves}
use Rattle.cellvalues.proofs.adc.put_adc.Given as goal

abbrev pub invariant-loop-i : goal.invariant-loop-i
invariant-loop-i l = (l.n ≡ min (min (length l.a) (length l.b)) (length l.initial.out)) × Leaves l.initial.out 0 (adc_bits l.a l.b l.c) l.out l.i (adc_bits (drop l.i l.a) (drop l.i l.b) l.carry)
