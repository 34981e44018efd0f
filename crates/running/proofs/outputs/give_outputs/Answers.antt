use native.Mathlib.Omega.{arith}
use Rattle.running.proofs.Giving.{gave_more, gave_all, gave_end}
use Rattle.running.proofs.outputs.give_outputs.Goals as goal

pub returns-then-at-eq0 : goal.returns-then-at-eq0
returns-then-at-eq0 c = gave_all c.loop-k.invariant (omega arith)

pub loop-k-preserved : goal.loop-k-preserved
loop-k-preserved c = gave_more c.loop-k.invariant _ _ (omega arith) (omega arith) c.record_at-r.ensures c.give-at.ensures

pub returns : goal.returns
returns c = gave_end c.loop-k.invariant (omega arith)
