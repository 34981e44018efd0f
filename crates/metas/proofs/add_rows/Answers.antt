use Rattle.metas.proofs.add_rows.Goals as goal

pub returns : goal.returns
returns c = let e = c.put_rows.ensures in rw c.meta_numbers_of.ensures at e
