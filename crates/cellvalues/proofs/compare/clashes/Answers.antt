use Rattle.cells.proofs.Places as places
use Rattle.cellvalues.proofs.compare.clashes.Goals as goal

pub returns-then-a-eq0 : goal.returns-then-a-eq0
returns-then-a-eq0 c = places.clash_zero _ _ c.if-a-eq0.true

pub returns-then-a-eq1 : goal.returns-then-a-eq1
returns-then-a-eq1 c = places.clash_one _ _ c.if-a-eq1.true

pub returns : goal.returns
returns c = places.clash_other _ _ c.if-a-eq0.false c.if-a-eq1.false
