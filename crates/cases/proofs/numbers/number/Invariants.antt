use Rattle.std.proofs.Common.{◌≤◌}
use Rattle.cases.proofs.numbers.number.Given as goal

abbrev pub invariant-loop-b : goal.invariant-loop-b
invariant-loop-b l = l.n ≤ 10000000000
