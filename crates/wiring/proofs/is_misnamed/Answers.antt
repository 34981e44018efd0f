use Rattle.wiring.proofs.is_misnamed.Goals as goal

pub returns : goal.returns
returns c = let e = c.misnames.ensures.1 in rw (c.meta_numbers_of.ensures, c.metas_of.ensures) at e
