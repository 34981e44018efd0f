use Prim.Native.Nat.{◌≤◌}
use mathlib.Core.Path.{◌≡◌}
use lib.ListN.{length}
use Rattle.pads.proofs.Filled.{Filled}
use Rattle.pads.proofs.pads_of.Given as goal

abbrev pub invariant-loop-i : goal.invariant-loop-i
invariant-loop-i l = (l.i ≤ 64) × (length l.pads ≡ 64) × Filled l.ios l.i l.pads
