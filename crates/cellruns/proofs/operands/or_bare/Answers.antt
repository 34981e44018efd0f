use Rattle.cellruns.proofs.operands.or_bare.Goals as goal

pub returns : goal.returns
returns c = rw c.if-bare.false c.is_bare.ensures
