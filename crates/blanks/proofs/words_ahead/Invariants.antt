use mathlib.Core.Path.{◌≡◌}
use Prim.Native.Nat.{◌+◌, ◌-◌, ◌≤◌}
use lib.ListN.{drop}
use Rattle.ground.specs.Regions.{blank}
use Rattle.blanks.proofs.words_ahead.Given as goal

abbrev pub invariant-loop-k : goal.invariant-loop-k
invariant-loop-k l = (l.count ≤ l.k) × (l.k ≤ 128) × (l.count ≡ 0 → blank (drop (l.i + l.k) l.table) ≡ blank (drop l.i l.table))
