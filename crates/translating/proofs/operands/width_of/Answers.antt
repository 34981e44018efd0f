use native.Mathlib.Omega.{arith}
use Rattle.ground.specs.Regions.{part}
use Rattle.cells.specs.Held.{held_runs, held_bits}
use Rattle.cells.proofs.Linking.{length_bits}
use Rattle.translating.proofs.operands.width_of.Goals as goal

pub returns : goal.returns
returns c = let a = c.args in omega (arith, c.gather.ensures.next, length_bits (held_bits a.runs.now a.trits.now) (part a.from a.size (held_runs a.runs.now a.trits.now)))
