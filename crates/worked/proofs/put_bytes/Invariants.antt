use Rattle.std.proofs.Common.{◌≤◌, length}
use Rattle.worked.proofs.put_bytes.Given as goal

abbrev pub invariant-loop-left : goal.invariant-loop-left
invariant-loop-left l = l.k ≤ length l.room

abbrev pub decreases-loop-left : goal.decreases-loop-left
decreases-loop-left l = length l.left
