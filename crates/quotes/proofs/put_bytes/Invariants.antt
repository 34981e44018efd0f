use Prim.Native.Nat.{◌-◌, ◌≤◌}
use mathlib.Core.Path.{◌≡◌}
use lib.ListN.{length}
use Rattle.writing.specs.Stands.{Leaves}
use Rattle.writing.specs.Parts.{up_to}
use Rattle.ground.specs.Regions.{part}
use Rattle.writing.specs.Words.{escaped}
use Rattle.quotes.proofs.put_bytes.Given as goal

abbrev pub invariant-loop-i : goal.invariant-loop-i
invariant-loop-i l = (length l.room ≡ length l.initial.room) × (l.end ≤ length l.pool) × Leaves l.initial.room l.n-2 (escaped (part l.from l.size l.pool)) l.room l.n (escaped (up_to l.i l.end l.pool))
