use Rattle.metas.proofs.source_row.Goals as goal

pub returns : goal.returns
returns c = rw c.no_spot.ensures
