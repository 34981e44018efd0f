use mathlib.Core.Path.{◌≡◌}
use Prim.Native.Nat.{◌-◌}
use lib.ListN.{length, drop}
use Rattle.ground.specs.Regions.{blank}
use Rattle.pools.proofs.blank_bytes.Given as goal

abbrev pub invariant-loop-i : goal.invariant-loop-i
invariant-loop-i l = blank (drop l.i l.pool) ≡ blank (drop l.from l.pool)
