use mathlib.Core.Path.{◌≡◌}
use Prim.Native.Nat.{◌+◌, ◌-◌, ◌≤◌}
use lib.ListN.{drop}
use Rattle.ground.specs.Regions.{blank}
use Rattle.blanks.proofs.bytes_ahead.Given as goal

abbrev pub invariant-loop-k : goal.invariant-loop-k
invariant-loop-k l = (l.k ≤ 1024) × (l.most ≡ 0 → blank (drop (l.i + l.k) l.pool) ≡ blank (drop l.i l.pool))
