use Rattle.evaluating.proofs.Going.{gave_none, gave_room, gave_more, gave_all}
use Rattle.cells.specs.Held.{held_runs, held_bits}
use native.Mathlib.Omega.{arith}
use Rattle.evaluating.proofs.settle.give_outputs.Goals as goal

pub loop-i-init : goal.loop-i-init
loop-i-init c = let a = c.args in gave_none a.cells.now (held_runs a.runs.now a.trits.now) (held_bits a.starts.now a.values.now) a.n a.answer.now

pub give_row-at-requires : goal.give_row-at-requires
give_row-at-requires c = (c.requires.0, omega (arith, c.loop-i-test.true, c.requires.1), gave_room c.loop-i.invariant c.loop-i-test.true c.requires.2)

pub loop-i-preserved : goal.loop-i-preserved
loop-i-preserved c = gave_more c.loop-i.invariant c.loop-i-test.true c.give_row-at.ensures

pub shape_of-answer : goal.shape_of-answer
shape_of-answer c = c.loop-i.invariant.long

pub returns : goal.returns
returns c = gave_all c.loop-i.invariant c.loop-i-test.false
