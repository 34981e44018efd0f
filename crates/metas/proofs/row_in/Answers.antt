use Rattle.metas.proofs.row_in.Goals as goal

pub returns : goal.returns
returns c = let e = c.row_for.ensures in rw c.meta_numbers_of.ensures at e
