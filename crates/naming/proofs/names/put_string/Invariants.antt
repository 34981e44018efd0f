use Prim.Native.Nat.{◌≤◌}
use mathlib.Core.Path.{◌≡◌}
use mathlib.Core.List.{◌++◌}
use lib.ListN.{length}
use Rattle.ground.specs.Regions.{part}
use Rattle.writing.specs.Stands.{Leaves}
use Rattle.writing.specs.Parts.{up_to}
use Rattle.naming.proofs.names.put_string.Given as goal

abbrev pub invariant-loop-i : goal.invariant-loop-i
invariant-loop-i l = (length l.room ≡ length l.initial.room) × (l.end ≤ length l.pool) × Leaves l.initial.room l.n-2 (λ k. part l.from l.size l.pool ++ k) l.room l.n (λ k. up_to l.i l.end l.pool ++ k)
