use Rattle.wiring.proofs.meta_row.Goals as goal

pub returns : goal.returns
returns c = let e = c.ref_row.ensures.1 in rw c.meta_numbers_of.ensures at e
