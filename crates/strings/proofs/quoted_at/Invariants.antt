use Rattle.signs.specs.Pieces.{quoted_at}
use Rattle.signs.proofs.Laws.{quoted_from}
use mathlib.Core.Path.{◌≡◌}
use Prim.Native.Nat.{◌-◌, ◌≤◌}
use lib.ListN.{length}
use Rattle.strings.proofs.quoted_at.Given as goal

abbrev pub invariant-loop-i : goal.invariant-loop-i
invariant-loop-i l = (l.size ≤ l.i) × (quoted_from l.size l.text l.i ≡ quoted_at l.text l.at)

abbrev pub decreases-loop-i : goal.decreases-loop-i
decreases-loop-i l = length l.text - l.i
