use Rattle.cellruns.proofs.operands.or_none.Goals as goal

pub returns-then-bare : goal.returns-then-bare
returns-then-bare c = rw c.if-bare.true

pub returns : goal.returns
returns c = rw c.if-bare.false
