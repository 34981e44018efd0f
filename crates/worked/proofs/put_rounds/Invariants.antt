use Rattle.std.proofs.Common.{◌≤◌, length}
use Rattle.worked.proofs.put_rounds.Given as goal

abbrev pub invariant-loop-round : goal.invariant-loop-round
invariant-loop-round l = l.k ≤ length l.room
