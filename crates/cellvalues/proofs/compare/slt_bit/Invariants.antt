use mathlib.Core.Path.{◌≡◌}
use Prim.Native.Nat.{◌+◌, ◌≤◌, min}
use lib.ListN.{length, drop}
use Rattle.trit.specs.Wide.{slt_from, slt_bit}
use Rattle.cellvalues.proofs.compare.slt_bit.Given as goal

abbrev pub invariant-loop-i : goal.invariant-loop-i
invariant-loop-i l = (l.i ≤ l.n) × (l.n ≡ min l.top (length l.b)) × (l.top + 1 ≡ length l.a) × (slt_from (drop l.i l.a) (drop l.i l.b) l.below ≡ slt_bit l.a l.b)
