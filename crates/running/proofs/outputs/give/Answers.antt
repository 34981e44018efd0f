use native.Mathlib.Omega.{arith}
use Rattle.running.proofs.Giving.{given_output, given_none, before_one, before_none}
use Rattle.running.proofs.outputs.give.Goals as goal

pub returns-then-r-eq8 : goal.returns-then-r-eq8
returns-then-r-eq8 c = let s = c.args in rw (given_output s.r s.slot c.if-r-eq8.true) (before_one s.outs.now s.at s.slot (omega arith))

pub returns : goal.returns
returns c = let s = c.args in rw (given_none s.r s.slot c.if-r-eq8.false) (before_none s.outs.now s.at)
