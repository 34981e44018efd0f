use Rattle.cells.proofs.Places as places
use Rattle.cellvalues.proofs.value.first.Goals as goal

pub returns-then-a-gt0 : goal.returns-then-a-gt0
returns-then-a-gt0 c = places.first_some c.args.a.now c.if-a-gt0.true

pub returns : goal.returns
returns c = places.first_none c.args.a.now c.if-a-gt0.false
