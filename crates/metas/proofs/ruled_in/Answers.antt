use Rattle.metas.proofs.ruled_in.Goals as goal

pub returns : goal.returns
returns c = let e = c.meta_ruled.ensures in rw (c.meta_numbers_of.ensures, c.metas_of.ensures) at e
