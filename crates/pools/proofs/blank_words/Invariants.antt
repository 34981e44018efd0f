use mathlib.Core.Path.{◌≡◌}
use Prim.Native.Nat.{◌-◌}
use lib.ListN.{length, drop}
use Rattle.ground.specs.Regions.{blank}
use Rattle.pools.proofs.blank_words.Given as goal

abbrev pub invariant-loop-i : goal.invariant-loop-i
invariant-loop-i l = blank (drop l.i l.table) ≡ blank (drop l.from l.table)
