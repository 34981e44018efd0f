use mathlib.Core.Path.{◌≡◌}
use Prim.Native.Nat.{◌≤◌}
use lib.ListN.{length}
use Rattle.pads.proofs.Far.{far}
use Rattle.pads.proofs.find_pad.Given as goal

abbrev pub invariant-loop-row : goal.invariant-loop-row
invariant-loop-row l = (l.row ≤ length l.pads) × (l.found ≡ far l.strings l.name l.pads l.row)
