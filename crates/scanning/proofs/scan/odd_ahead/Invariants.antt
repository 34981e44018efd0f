use mathlib.Core.Path.{◌≡◌}
use mathlib.Core.List.{[]}
use Prim.Native.Nat.{◌+◌, ◌-◌, ◌≤◌}
use Rattle.scanning.specs.Plain.{Skips}
use Rattle.scanning.proofs.scan.odd_ahead.Given as goal

abbrev pub invariant-loop-k : goal.invariant-loop-k
invariant-loop-k l = (l.k ≤ 64) × (l.count ≤ l.k) × (l.count ≡ 0 → Skips l.text [] l.i (l.i + l.k))
