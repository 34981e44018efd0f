use native.Mathlib.Omega.{arith}
use Rattle.ground.specs.Regions.{zeros}
use Rattle.scanning.specs.Whole.{tail_of}
use Rattle.scanning.specs.Modes.{lack, lacking, meant}
use Rattle.scanning.proofs.Sequences.{begins}
use Rattle.scanning.proofs.scan.long_lead.Goals as goal

pub returns-then-b-lt194 : goal.returns-then-b-lt194
unfolding meant lacking lack tail_of zeros
returns-then-b-lt194 c = begins 128 66 (meant 9) tt c.args.b (omega arith) (omega arith)

pub returns-then-b-lt224 : goal.returns-then-b-lt224
unfolding meant lacking lack tail_of zeros
returns-then-b-lt224 c = begins 194 30 (meant 1) tt c.args.b (omega arith) (omega arith)

pub returns-then-b-eq224 : goal.returns-then-b-eq224
unfolding meant lacking lack tail_of zeros
returns-then-b-eq224 c = begins 224 1 (meant 4) tt c.args.b (omega arith) (omega arith)

pub returns-then-b-lt237 : goal.returns-then-b-lt237
unfolding meant lacking lack tail_of zeros
returns-then-b-lt237 c = begins 225 12 (meant 2) tt c.args.b (omega arith) (omega arith)

pub returns-then-b-eq237 : goal.returns-then-b-eq237
unfolding meant lacking lack tail_of zeros
returns-then-b-eq237 c = begins 237 1 (meant 5) tt c.args.b (omega arith) (omega arith)

pub returns-then-b-lt240 : goal.returns-then-b-lt240
unfolding meant lacking lack tail_of zeros
returns-then-b-lt240 c = begins 238 2 (meant 2) tt c.args.b (omega arith) (omega arith)

pub returns-then-b-eq240 : goal.returns-then-b-eq240
unfolding meant lacking lack tail_of zeros
returns-then-b-eq240 c = begins 240 1 (meant 6) tt c.args.b (omega arith) (omega arith)

pub returns-then-b-lt244 : goal.returns-then-b-lt244
unfolding meant lacking lack tail_of zeros
returns-then-b-lt244 c = begins 241 3 (meant 3) tt c.args.b (omega arith) (omega arith)

pub returns-then-b-eq244 : goal.returns-then-b-eq244
unfolding meant lacking lack tail_of zeros
returns-then-b-eq244 c = begins 244 1 (meant 7) tt c.args.b (omega arith) (omega arith)

pub returns : goal.returns
unfolding meant lacking lack tail_of zeros
returns c = begins 245 11 (meant 9) tt c.args.b (omega arith) (omega (arith, c.ranges.b.fits))
