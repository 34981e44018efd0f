use native.Mathlib.Omega.{arith}
use Rattle.ground.specs.Regions.{zeros}
use Rattle.scanning.specs.Whole.{tail_of}
use Rattle.scanning.specs.Modes.{lack, lacking, meant}
use Rattle.scanning.proofs.Sequences.{begins}
use Rattle.scanning.proofs.scan.lead.Goals as goal

pub returns-then-b-lt13 : goal.returns-then-b-lt13
unfolding meant lacking lack tail_of zeros
returns-then-b-lt13 c = begins 0 13 (meant 0) tt c.args.b (omega arith) (omega arith)

pub returns-then-b-eq13 : goal.returns-then-b-eq13
unfolding meant lacking lack tail_of zeros
returns-then-b-eq13 c = begins 13 1 (meant 8) tt c.args.b (omega arith) (omega arith)

pub returns-then-b-lt128 : goal.returns-then-b-lt128
unfolding meant lacking lack tail_of zeros
returns-then-b-lt128 c = begins 14 114 (meant 0) tt c.args.b (omega arith) (omega arith)

pub returns : goal.returns
returns c = c.long_lead.ensures
