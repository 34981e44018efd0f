use Rattle.running.proofs.Giving.{Gave}
use Rattle.running.proofs.outputs.give_outputs.Given as goal

abbrev pub invariant-loop-k : goal.invariant-loop-k
invariant-loop-k l = Gave l.list l.work l.n l.initial.outs l.k l.at l.outs
