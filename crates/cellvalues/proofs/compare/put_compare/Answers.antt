use Rattle.cellvalues.proofs.compare.put_compare.Goals as goal

pub returns : goal.returns
returns c = rw c.compare_bit.ensures at c.put_bit.ensures
