use Rattle.std.proofs.Common.{◌<◌}
use Rattle.cases.proofs.told.sum.Given as goal

abbrev pub invariant-loop-x : goal.invariant-loop-x
invariant-loop-x g l = (l.last < 4294967291) × (l.sum < 4294967291)
