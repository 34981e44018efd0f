use Rattle.checking.proofs.Laws.{Walking}
use Rattle.checking.proofs.ios.ios_good.Given as goal

abbrev pub invariant-loop-i : goal.invariant-loop-i
invariant-loop-i l = Walking l.ios l.names l.n l.i l.s
