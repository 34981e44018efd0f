use mathlib.Core.Path.{◌≡◌}
use Prim.Native.Nat.{◌-◌, ◌≤◌}
use lib.ListN.{length, drop}
use Rattle.ground.specs.Regions.{blank}
use Rattle.blanks.proofs.past_bytes.Given as goal

abbrev pub invariant-loop-i : goal.invariant-loop-i
invariant-loop-i l = (l.i ≤ length l.pool) × (blank (drop l.i l.pool) ≡ blank (drop l.from l.pool))

abbrev pub decreases-loop-i : goal.decreases-loop-i
decreases-loop-i l = length l.pool - l.i
